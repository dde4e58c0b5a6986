-- Parts of lists.
use Rattle.std.proofs.Common.{◌≡◌, ◌⊎◌, zero, suc, List, [], ◌∷◌, ◌++◌, All, Contains, inl, inr, ⊎_elim, refl, sym, subst, arith}
use Rattle.std.specs.Prelude.{Any}
use Rattle.std.proofs.lemmas.List.Elements.{All-cons, All-nil, Contains-append_cases, Contains-append_left, Contains-push_cases}

is_one : {X : Type 0} (x other : X) → Contains (x ∷ []) other → x ≡ other
is_one x other (zero, low, is) = is
is_one x other (suc k, low, is) = absurd (omega (arith, low))

pub first_or_later : {X : Type 0} (x other : X) (xs : List X) → Contains (x ∷ xs) other → (x ≡ other) ⊎ Contains xs other
first_or_later x other xs held = elim (Contains-append_cases (x ∷ []) xs other held) [
  | inl one ↦ inl (is_one x other one)
  | inr later ↦ inr later
]

pub is_first : {X : Type 0} (x : X) (xs : List X) → Contains (x ∷ xs) x
is_first x xs = (0, omega arith, refl)

pub is_later : {X : Type 0} (x other : X) (xs : List X) → Contains xs other → Contains (x ∷ xs) other
is_later x other xs (k, low, is) = (suc k, omega (arith, low), is)

pub nothing_in : {X : Type 0} (x : X) → Contains [] x → ⊥
nothing_in x (k, low, is) = omega (arith, low)

pub all_from : {X : Type 0} (P : X → Type 0) (xs : List X) → ((x : X) → Contains xs x → P x) → All P xs
all_from P [] each = All-nil P
all_from P (x ∷ xs) each = All-cons P x xs (each x (is_first x xs)) (all_from P xs (λ y held. each y (is_later x y xs held)))

-- ---- one more behind

pub any_push_cases : {X : Type 0} (P : X → Type 0) (xs : List X) (y : X) → Any P (xs ++ y ∷ []) → Any P xs ⊎ P y
any_push_cases P xs y any =
    ⊎_elim (λ old. inl (old.0, any.1, old.1, old.2, any.4)) (λ same. inr (subst P (sym same) any.4)) (Contains-push_cases xs y any.1 (any.0, any.2, any.3))

pub any_append_left : {X : Type 0} (P : X → Type 0) (xs : List X) (y : X) → Any P xs → Any P (xs ++ y ∷ [])
any_append_left P xs y any = let there = Contains-append_left xs (y ∷ []) any.1 (any.0, any.2, any.3) in (there.0, any.1, there.1, there.2, any.4)
