-- Lists by their elements.
use Rattle.std.proofs.Common.{ℕ, zero, suc, ◌≡◌, ◌⊎◌, ◌<◌, ◌≤◌, List, [], ◌∷◌, map, slice_get, Option, Some, refl, sym, ◌∙◌, arith}
use Rattle.std.proofs.lemmas.Option.{slice_get_within}

-- two that have the same element at each place
pub same_lists : {X : Type 0} (xs ys : List X) → ((k : ℕ) → slice_get ys k ≡ slice_get xs k) → ys ≡ xs
same_lists [] [] same = refl
same_lists [] (y ∷ ys) same = absurd (cc (same 0))
same_lists (x ∷ xs) [] same = absurd (cc (same 0))
same_lists (x ∷ xs) (y ∷ ys) same = cc (same 0, same_lists xs ys (λ k. same (suc k)))

pub same_some : {X : Type 0} (o : Option X) (x y : X) → o ≡ Some x → o ≡ Some y → x ≡ y
same_some o x y is also = let both : Some x ≡ Some y = sym is ∙ also in cc

pub below_or : (k n : ℕ) → (k < n) ⊎ (n ≤ k)
below_or k n = grind arith

-- what is of a list that was mapped comes of one of its elements
pub found_in_map : {X Y : Type 0} (f : X → Y) (xs : List X) (i : ℕ) (y : Y) → slice_get (map f xs) i ≡ Some y → (x : X) × (slice_get xs i ≡ Some x) × (f x ≡ y)
found_in_map f [] i y at = absurd (omega (arith, slice_get_within [] i y at))
found_in_map f (x ∷ xs) zero y at = (x, refl, cc)
found_in_map f (x ∷ xs) (suc i) y at = found_in_map f xs i y at
