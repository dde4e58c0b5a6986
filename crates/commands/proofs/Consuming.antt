-- Reading an input to its end.
use Rattle.std.proofs.Common.{◌≡◌, ℕ, ◌+◌, ◌^◌, ◌≤◌, ◌<◌, List, [], ◌++◌, length, Option, None, Some, refl, sym, ap, ◌∙◌, subst, arith, length-append, append_assoc, append-nil}
use Rattle.std.specs.Io.KnownBytes.{Consumes, IsAtEnd}
use Rattle.commands.specs.Input.{IsGiven, counted}
use Rattle.commands.specs.declared.input.Given.{Given}

-- what was read so far: all of it stands in front, if it is 1 MiB at most
pub record SoFar (old now : Option (List ℕ)) (front : List ℕ) (len : ℕ) : Type 0 where
  pub read : List ℕ
  pub consumed : Consumes old now read
  pub count : len ≡ counted (length read)
  pub kept : length read ≤ 2 ^ 20 → front ≡ read

pub consumed_more : (a b c : Option (List ℕ)) (xs ys : List ℕ) → Consumes a b xs → Consumes b c ys → Consumes a c (xs ++ ys)
consumed_more None b c xs ys f g = tt
consumed_more (Some x) None c xs ys f g = absurd f
consumed_more (Some x) (Some y) None xs ys f g = absurd g
consumed_more (Some x) (Some y) (Some z) xs ys f g = f ∙ (ap (λ l. xs ++ l) g ∙ sym (append_assoc xs ys z))

pub nothing : (now : Option (List ℕ)) → Consumes now now []
nothing None = tt
nothing (Some x) = refl

pub at_first : (now : Option (List ℕ)) → SoFar now now [] 0
at_first now = record { read = []; consumed = nothing now; count = refl; kept = λ few. refl }

counts_on : (a b : ℕ) → counted (counted a + b) ≡ counted (a + b)
counts_on a b = omega arith

-- as many more were read
module _ (old now new : Option (List ℕ)) (front : List ℕ) (len : ℕ) (bytes : List ℕ) (so_far : SoFar old now front len) (more : Consumes now new bytes) where
  count_more : counted (len + length bytes) ≡ counted (length (so_far.read ++ bytes))
  count_more = ap (λ n. counted (n + length bytes)) so_far.count ∙ (counts_on (length so_far.read) (length bytes) ∙ ap counted (sym (length-append so_far.read bytes)))

  -- and they are kept
  pub kept_more : SoFar old new (front ++ bytes) (counted (len + length bytes))
  kept_more = record {
    read = so_far.read ++ bytes;
    consumed = consumed_more old now new so_far.read bytes so_far.consumed more;
    count = count_more;
    kept = λ few. ap (λ l. l ++ bytes) (so_far.kept (let n = length-append so_far.read bytes in omega (arith, few, n)));
  }

  -- and they are too many
  pub left_more : 2 ^ 20 < counted (len + length bytes) → SoFar old new front (counted (len + length bytes))
  left_more many = record {
    read = so_far.read ++ bytes;
    consumed = consumed_more old now new so_far.read bytes so_far.consumed more;
    count = count_more;
    kept = λ few. absurd (omega (arith, few, many, count_more));
  }

-- at the end what was read is all
pub at_end : (old now new : Option (List ℕ)) (given : Given) → SoFar old now given.front.items given.len → Consumes now new [] → IsAtEnd new → IsGiven old given
at_end None now new given so_far none ended = tt
at_end (Some all) None new given so_far none ended = absurd so_far.consumed
at_end (Some all) (Some rest) None given so_far none ended = absurd none
at_end (Some all) (Some rest) (Some left) given so_far none ended =
    let is_all : all ≡ so_far.read = so_far.consumed ∙ (ap (λ l. so_far.read ++ l) (none ∙ ended) ∙ append-nil so_far.read) in
    (so_far.count ∙ ap (λ l. counted (length l)) (sym is_all), λ few. so_far.kept (subst (λ l. length l ≤ 2 ^ 20) is_all few) ∙ sym is_all)
