-- Elements of lists, by their places.
use Rattle.std.proofs.Common.{◌≡◌, ◌⊎◌, inl, inr, ◌<◌, ◌≤◌, ◌∙◌, ◌+◌, ℕ, zero, suc, List, [], ◌∷◌, ◌++◌, length, slice_get, get_or, Some, All, Contains, refl, sym, ap, subst, arith}
use Rattle.std.proofs.lemmas.Option.{slice_get_within, slice_get_read, get_or_from_slice_get}
use Rattle.std.proofs.lemmas.Bool.{cases_lt}

-- what holds of each holds of the one at a place
pub all_at : {X : Type 0} (P : X → Type 0) (xs : List X) (i : ℕ) (x : X) → All P xs → slice_get xs i ≡ Some x → P x
all_at P xs i x all e = subst P (get_or_from_slice_get xs i x x e) (all i x (slice_get_within xs i x e))

pub contains_at : {X : Type 0} (xs : List X) (i : ℕ) (x : X) → slice_get xs i ≡ Some x → Contains xs x
contains_at xs i x e = (i, slice_get_within xs i x e, get_or_from_slice_get xs i x x e)

pub at_contains : {X : Type 0} (xs : List X) (x : X) → Contains xs x → (i : ℕ) × (slice_get xs i ≡ Some x)
at_contains [] x (k, below, is) = absurd (omega (arith, below))
at_contains (y ∷ xs) x (zero, below, is) = (0, ap Some is)
at_contains (y ∷ xs) x (suc k, below, is) = let it = at_contains xs x (k, omega (arith, below), is) in (suc it.0, it.1)

-- one more at the end
pub push_cases : {X : Type 0} (xs : List X) (y x : X) (i : ℕ) → slice_get (xs ++ y ∷ []) i ≡ Some x → (slice_get xs i ≡ Some x) ⊎ ((i ≡ length xs) × (y ≡ x))
push_cases [] y x zero e = inr (refl, cc)
push_cases [] y x (suc i) e = absurd cc
push_cases (z ∷ xs) y x zero e = inl e
push_cases (z ∷ xs) y x (suc i) e = elim (push_cases xs y x i e) [ inl before ↦ inl before | inr last ↦ inr (ap suc last.0, last.1) ]

-- ---- loops that look for one

-- none of the first so many has P
abbrev pub NoneTo : {X : Type 0} → (X → Type 0) → List X → ℕ → Type 0
NoneTo {X} P xs n = (k : ℕ) (x : X) → k < n → slice_get xs k ≡ Some x → ¬ P x

pub here : {X : Type 0} (xs : List X) (i : ℕ) (item : X) → i < length xs → item ≡ get_or xs i item → slice_get xs i ≡ Some item
here xs i item below is = slice_get_read xs (length xs) i item refl below is

pub same_at : {X : Type 0} (xs : List X) (i j : ℕ) (x y : X) → i ≡ j → slice_get xs i ≡ Some x → slice_get xs j ≡ Some y → x ≡ y
same_at {X} xs i j x y e at there =
    let P : ℕ → Type 0 = λ n. slice_get xs n ≡ Some x in
    let both : Some x ≡ Some y = sym (subst P e at) ∙ there in
    cc

pub none_more : {X : Type 0} (P : X → Type 0) (xs : List X) (i : ℕ) (item : X) → NoneTo P xs i → i < length xs → item ≡ get_or xs i item → ¬ P item → NoneTo P xs (i + 1)
none_more P xs i item before below is fails k x less e =
    elim (cases_lt k i) [
      | inl earlier ↦ before k x earlier e
      | inr later ↦
          let same : x ≡ item = same_at xs k i x item (omega (arith, less, later)) e (here xs i item below is) in
          λ p. fails (subst P same p)
    ]

pub none_all : {X : Type 0} (P : X → Type 0) (xs : List X) (n : ℕ) → length xs ≤ n → NoneTo P xs n → (k : ℕ) (x : X) → slice_get xs k ≡ Some x → ¬ P x
none_all P xs n le none k x e = none k x (omega (arith, le, slice_get_within xs k x e)) e
