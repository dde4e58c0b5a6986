-- Lists whose elements change one after another.
use Rattle.std.proofs.Common.{ℕ, zero, suc, ◌≡◌, ◌≢◌, inl, inr, ◌+◌, ◌<◌, ◌≤◌, Some, List, [], ◌∷◌, length, refl, sym, ap, subst, ◌∙◌, arith}
use Rattle.std.specs.Prelude.{slice_set, map}
use Rattle.std.specs.List.{slice_get}
use Rattle.std.proofs.lemmas.Bool.{cases_lt, cases_eq}

pub same_some : {X : Type 0} (x y : X) → Some x ≡ Some y → x ≡ y
same_some x y is = cc

pub set_same : {X : Type 0} (xs : List X) (i : ℕ) (x y : X) → slice_get (slice_set xs i x) i ≡ Some y → x ≡ y
set_same [] i x y is = absurd (cc)
set_same (z ∷ xs) zero x y is = same_some x y is
set_same (z ∷ xs) (suc i) x y is = set_same xs i x y is

pub set_found : {X : Type 0} (xs : List X) (i : ℕ) (x y : X) → slice_get xs i ≡ Some x → slice_get (slice_set xs i y) i ≡ Some y
set_found [] i x y found = absurd (cc)
set_found (z ∷ xs) zero x y found = refl
set_found (z ∷ xs) (suc i) x y found = set_found xs i x y found

pub set_other : {X : Type 0} (xs : List X) (i k : ℕ) (x : X) → i ≢ k → slice_get (slice_set xs i x) k ≡ slice_get xs k
set_other [] i k x differ = refl
set_other (z ∷ xs) zero zero x differ = absurd (differ refl)
set_other (z ∷ xs) zero (suc k) x differ = refl
set_other (z ∷ xs) (suc i) zero x differ = refl
set_other (z ∷ xs) (suc i) (suc k) x differ = set_other xs i k x (λ same. differ (ap suc same))

pub length_set : {X : Type 0} (xs : List X) (i : ℕ) (x : X) → length (slice_set xs i x) ≡ length xs
length_set [] i x = refl
length_set (z ∷ xs) zero x = refl
length_set (z ∷ xs) (suc i) x = ap suc (length_set xs i x)

pub map_set : {X Y : Type 0} (f : X → Y) (xs : List X) (i : ℕ) (x : X) → map f (slice_set xs i x) ≡ slice_set (map f xs) i (f x)
map_set f [] i x = refl
map_set f (z ∷ xs) zero x = refl
map_set f (z ∷ xs) (suc i) x = ap (λ ys. f z ∷ ys) (map_set f xs i x)

-- what is the same of both elements is the same of all
pub map_stays : {X Y : Type 0} (f : X → Y) (xs : List X) (i : ℕ) (x y : X) → slice_get xs i ≡ Some x → f y ≡ f x → map f (slice_set xs i y) ≡ map f xs
map_stays f [] i x y found same = refl
map_stays f (z ∷ xs) zero x y found same = ap (λ h. h ∷ map f xs) (same ∙ ap f (sym (same_some z x found)))
map_stays f (z ∷ xs) (suc i) x y found same = ap (λ ys. f z ∷ ys) (map_stays f xs i x y found same)

pub map_found : {X Y : Type 0} (f : X → Y) (xs : List X) (i : ℕ) (x : X) → slice_get xs i ≡ Some x → slice_get (map f xs) i ≡ Some (f x)
map_found f [] i x found = absurd (cc)
map_found f (z ∷ xs) zero x found = ap Some (ap f (same_some z x found))
map_found f (z ∷ xs) (suc i) x found = map_found f xs i x found

-- what is found in the list of values is the value of an element
pub found_in_map : {X Y : Type 0} (f : X → Y) (xs : List X) (i : ℕ) (y : Y) → slice_get (map f xs) i ≡ Some y → (x : X) × (slice_get xs i ≡ Some x) × (f x ≡ y)
found_in_map f [] i y found = absurd (cc)
found_in_map f (z ∷ xs) zero y found = (z, refl, same_some (f z) y found)
found_in_map f (z ∷ xs) (suc i) y found = found_in_map f xs i y found

-- two lists of values that agree at each place
pub maps_agree : {X Y : Type 0} (f g : X → Y) (xs ys : List X) → length ys ≡ length xs
    → ((m : ℕ) (x y : X) → slice_get xs m ≡ Some x → slice_get ys m ≡ Some y → g y ≡ f x) → map g ys ≡ map f xs
maps_agree f g [] [] count each = refl
maps_agree f g [] (y ∷ ys) count each = absurd (omega (arith, count))
maps_agree f g (x ∷ xs) [] count each = absurd (omega (arith, count))
maps_agree f g (x ∷ xs) (y ∷ ys) count each =
    let fewer : length ys ≡ length xs = omega (arith, count) in
    let rest = maps_agree f g xs ys fewer (λ m a b found found'. each (suc m) a b found found') in
    ap (λ h. h ∷ map g ys) (each zero x y refl refl) ∙ ap (λ zs. f x ∷ zs) rest

-- the elements before a place have become others, and the rest are as they were
pub record HasBecome {X : Type 0} (became : X → X → Type 0) (old new : List X) (upto : ℕ) : Type 0 where
  pub count : length new ≡ length old
  pub done : (m : ℕ) (x y : X) → m < upto → slice_get old m ≡ Some x → slice_get new m ≡ Some y → became x y
  pub rest : (m : ℕ) → upto ≤ m → slice_get new m ≡ slice_get old m

pub none_yet : {X : Type 0} (became : X → X → Type 0) (xs : List X) → HasBecome became xs xs 0
none_yet became xs = record { count = refl; done = λ m x y below. absurd (omega (arith, below)); rest = λ m above. refl }

pub one_more : {X : Type 0} (became : X → X → Type 0) (old new : List X) (i : ℕ) (x y : X) → HasBecome became old new i → slice_get new i ≡ Some x → became x y
    → HasBecome became old (slice_set new i y) (i + 1)
one_more became old new i x y so_far found this = record {
  count = length_set new i y ∙ so_far.count;
  done = λ m a b below was is. elim (cases_eq m i) [
    | inl here ↦
        let is_new : y ≡ b = set_same new i y b (ap (λ k. slice_get (slice_set new i y) k) (sym here) ∙ is) in
        let is_old : x ≡ a = same_some x a (sym found ∙ so_far.rest i (omega arith) ∙ ap (λ k. slice_get old k) (sym here) ∙ was) in
        subst (λ z. became a z) is_new (subst (λ z. became z y) is_old this)
    | inr other ↦ so_far.done m a b (omega (arith, below, other)) was (sym (set_other new i m y (λ same. other (sym same))) ∙ is)
  ];
  rest = λ m above. set_other new i m y (λ same. omega (arith, above, same)) ∙ so_far.rest m (omega (arith, above));
}

pub past : {X : Type 0} (xs : List X) (i : ℕ) (x : X) → length xs ≤ i → slice_get xs i ≡ Some x → ⊥
past [] i x above found = cc
past (z ∷ xs) zero x above found = omega (arith, above)
past (z ∷ xs) (suc i) x above found = past xs i x (omega (arith, above)) found

pub all_done : {X : Type 0} (became : X → X → Type 0) (old new : List X) (n : ℕ) → length old ≤ n → HasBecome became old new n
    → (m : ℕ) (x y : X) → slice_get old m ≡ Some x → slice_get new m ≡ Some y → became x y
all_done became old new n enough so_far m x y was is =
    elim (cases_lt m n) [
      | inl below ↦ so_far.done m x y below was is
      | inr above ↦ absurd (past old m x (omega (arith, enough, above)) was)
    ]
