-- The places that children name, one child after the other.
use Rattle.std.proofs.Common.{◌≡◌, ◌≢◌, ◌<◌, ◌∙◌, ℕ, List, [], ◌∷◌, ◌++◌, length, get_or, All, Contains, Some, None, ap, sym, subst, refl, arith, append_assoc}
use Rattle.std.specs.List.{AllPairs}
use Rattle.std.specs.Option.{option_to_list}
use Rattle.std.proofs.Math.Seq.{get_or-append_seam}
use Rattle.std.proofs.lemmas.List.{append-nil, get_or_append_left, get_or_default, length-append}
use Rattle.std.proofs.lemmas.List.Elements.{All-push, All-contains, Contains-append_right}
use Rattle.std.proofs.lemmas.List.Quantifiers.{all_pairs_push}
use Rattle.pool_members.specs.Arranged.{places, AreEachOnce}
use Rattle.pool_members.specs.declared.arranging.Child.{Child}

pub places-append : (front rest : List Child) → places (front ++ rest) ≡ places front ++ places rest
places-append [] rest = refl
places-append (child ∷ front) rest =
    ap (λ named. option_to_list child.disk ++ named) (places-append front rest) ∙ sym (append_assoc (option_to_list child.disk) (places front) (places rest))

pub places-absent : (front : List Child) (child : Child) → child.disk ≡ None → places (front ++ child ∷ []) ≡ places front
places-absent front child is =
    places-append front (child ∷ []) ∙ ap (λ m. places front ++ (option_to_list m ++ [])) is ∙ append-nil (places front)

pub places-present : (front rest : List Child) (child : Child) (place : ℕ) → child.disk ≡ Some place
    → places (front ++ child ∷ rest) ≡ places front ++ place ∷ places rest
places-present front rest child place is =
    places-append front (child ∷ rest) ∙ ap (λ m. places front ++ (option_to_list m ++ places rest)) is

-- one more child: each once
pub each_once-absent : (count : ℕ) (front : List Child) (child : Child) → child.disk ≡ None → AreEachOnce count front
    → AreEachOnce count (front ++ child ∷ [])
each_once-absent count front child is each =
    let same : places (front ++ child ∷ []) ≡ places front = places-absent front child is in
    record {
      among = subst (All (λ place. place < count)) (sym same) each.among;
      once = subst (AllPairs (λ place later. place ≢ later)) (sym same) each.once;
    }

pub each_once-present : (count : ℕ) (front : List Child) (child : Child) (place : ℕ) → child.disk ≡ Some place → place < count
    → ¬ Contains (places front) place → AreEachOnce count front → AreEachOnce count (front ++ child ∷ [])
each_once-present count front child place is below fresh each =
    let same : places (front ++ child ∷ []) ≡ places front ++ place ∷ [] = places-present front [] child place is in
    let apart : (k d : ℕ) → k < length (places front) → get_or (places front) k d ≢ place =
    λ k d inside it. fresh (k, inside, get_or_default (places front) k place d inside ∙ it) in
    record {
      among = subst (All (λ place. place < count)) (sym same) (All-push (λ place. place < count) (places front) place each.among below);
      once = subst (AllPairs (λ place later. place ≢ later)) (sym same) (all_pairs_push (λ place later. place ≢ later) (places front) place each.once apart);
    }

-- what stands twice in a list
twice : (xs ys : List ℕ) (y : ℕ) → Contains xs y → ¬ AllPairs (λ place later. place ≢ later) (xs ++ y ∷ ys)
twice xs ys y (k, inside, is) apart =
    apart k (length xs) y inside (omega (arith, length-append xs (y ∷ ys)))
    (get_or_append_left xs (y ∷ ys) y k inside ∙ is ∙ sym (get_or-append_seam xs y ys y))

-- children that are each once: none names what one in front of it names, or what isn't there
pub each_once-fresh : (count : ℕ) (front rest : List Child) (child : Child) (place : ℕ) → child.disk ≡ Some place
    → AreEachOnce count (front ++ child ∷ rest) → ¬ Contains (places front) place
each_once-fresh count front rest child place is each known =
    twice (places front) (places rest) place known
    (subst (AllPairs (λ place later. place ≢ later)) (places-present front rest child place is) each.once)

pub each_once-among : (count : ℕ) (front rest : List Child) (child : Child) (place : ℕ) → child.disk ≡ Some place
    → AreEachOnce count (front ++ child ∷ rest) → place < count
each_once-among count front rest child place is each =
    All-contains (λ place. place < count) (places front ++ place ∷ places rest) place
    (subst (All (λ place. place < count)) (places-present front rest child place is) each.among)
    (Contains-append_right (places front) (place ∷ places rest) place (0, omega arith, refl))
