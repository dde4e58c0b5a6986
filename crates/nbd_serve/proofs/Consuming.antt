-- Bytes that are read and written one after another.
use Rattle.std.proofs.Common.{◌≡◌, ℕ, ◌+◌, List, [], ◌∷◌, ◌++◌, length, Option, None, Some, refl, sym, ap, ◌∙◌, arith, length-append, append_assoc, append-nil}
use Rattle.std.specs.List.{flat_map}
use Rattle.std.specs.Io.KnownBytes.{Appends, Consumes}

pub consumed_more : (a b c : Option (List ℕ)) (xs ys : List ℕ) → Consumes a b xs → Consumes b c ys → Consumes a c (xs ++ ys)
consumed_more None b c xs ys f g = tt
consumed_more (Some x) None c xs ys f g = absurd f
consumed_more (Some x) (Some y) None xs ys f g = absurd g
consumed_more (Some x) (Some y) (Some z) xs ys f g = f ∙ (ap (λ l. xs ++ l) g ∙ sym (append_assoc xs ys z))

pub consumed_none : (a : Option (List ℕ)) → Consumes a a []
consumed_none None = tt
consumed_none (Some x) = refl

pub appended_more : (a b c : Option (List ℕ)) (xs ys : List ℕ) → Appends a b xs → Appends b c ys → Appends a c (xs ++ ys)
appended_more None b c xs ys f g = tt
appended_more (Some x) None c xs ys f g = absurd f
appended_more (Some x) (Some y) None xs ys f g = absurd g
appended_more (Some x) (Some y) (Some z) xs ys f g = g ∙ (ap (λ l. l ++ ys) f ∙ append_assoc x xs ys)

pub appended_none : (a : Option (List ℕ)) → Appends a a []
appended_none None = tt
appended_none (Some x) = sym (append-nil x)

-- of so many bytes these were read, and as many are left
pub record HasDropped (old now : Option (List ℕ)) (len left : ℕ) : Type 0 where
  pub bytes : List ℕ
  pub count : length bytes + left ≡ len
  pub consumed : Consumes old now bytes

pub dropped_none : (old : Option (List ℕ)) (len : ℕ) → HasDropped old old len len
dropped_none old len = record { bytes = []; count = omega arith; consumed = consumed_none old }

pub dropped_more : (old now new : Option (List ℕ)) (len left : ℕ) (part : List ℕ) → HasDropped old now len (length part + left) → Consumes now new part → HasDropped old new len left
dropped_more old now new len left part so_far more = record {
  bytes = so_far.bytes ++ part;
  count = omega (arith, so_far.count, length-append so_far.bytes part);
  consumed = consumed_more old now new so_far.bytes part so_far.consumed more;
}

-- the bytes of one thing more
pub one_more : {X : Type 0} (f : X → List ℕ) (xs : List X) (x : X) → flat_map f xs ++ f x ≡ flat_map f (xs ++ x ∷ [])
one_more f [] x = sym (append-nil (f x))
one_more f (y ∷ xs) x = append_assoc (f y) (flat_map f xs) (f x) ∙ ap (λ (l : List ℕ). f y ++ l) (one_more f xs x)
