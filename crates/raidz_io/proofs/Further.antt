-- Further columns that are wrong, and how many there are.
use Rattle.std.proofs.Common.{ℕ, zero, suc, ◌≡◌, ◌≢◌, ◌⊎◌, inl, inr, ◌+◌, ◌<◌, ◌≤◌, List, [], ◌∷◌, ◌++◌, length, slice_index, Contains, sym, subst, arith}
use Rattle.std.proofs.lemmas.Bool.{cases_lt}
use Rattle.std.proofs.lemmas.List.Elements.{Contains-append_cases}
use Rattle.raidz_io.specs.Choices.{AreFurther}
use Rattle.raidz_io.proofs.Calls.{Contains-front, Contains-later, Contains-none, Contains-cases}
use Rattle.raidz_io.proofs.Pigeons.{same_at}
use Rattle.raidz_io.proofs.ReadSteps.{contains_at}

same_or_not : (a b : ℕ) → (a ≡ b) ⊎ (a ≢ b)
same_or_not a b = grind arith

pub contains_or_not : (xs : List ℕ) (y : ℕ) → Contains xs y ⊎ (¬ Contains xs y)
contains_or_not [] y = inr (Contains-none y)
contains_or_not (x ∷ xs) y =
    elim (same_or_not y x) [
      | inl same ↦ inl (rw same (Contains-front x xs))
      | inr differs ↦ elim (contains_or_not xs y) [
        | inl held ↦ inl (Contains-later x xs y held)
        | inr out ↦ inr (λ held. elim (Contains-cases x xs y held) [ inl same ↦ differs same | inr later ↦ out later ])
      ]
    ]

further_from : (from count : ℕ) (further : List ℕ) → AreFurther (from + 1) count further → AreFurther from count further
further_from from count [] are = tt
further_from from count (k ∷ further) are = (omega (arith, are.0), are.1, are.2)

-- those of the columns that have a property, in order
pub further_with : (P : ℕ → Type 0) → ((k : ℕ) → P k ⊎ (¬ P k)) → (m from count : ℕ) → from + m ≡ count
    → (further : List ℕ) × AreFurther from count further × ((k : ℕ) → Contains further k → P k)
    × ((k : ℕ) → from ≤ k → k < count → P k → Contains further k)
further_with P decide zero from count is =
    ([], tt, λ k held. absurd (Contains-none k held), λ k start below held. absurd (omega arith))
further_with P decide (suc m) from count is =
    let rest = further_with P decide m (from + 1) count (omega arith) in
    elim (decide from) [
      | inl here ↦ (
        from ∷ rest.0,
        (omega arith, omega arith, rest.1),
        λ k held. elim (Contains-cases from rest.0 k held) [ inl same ↦ subst P (sym same) here | inr later ↦ rest.2 k later ],
        λ k start below held. elim (cases_lt from k) [
          | inl after ↦ Contains-later from rest.0 k (rest.3 k (omega arith) below held)
          | inr at ↦ let same : k ≡ from = omega arith in rw same (Contains-front from rest.0)
        ],
      )
      | inr out ↦ (
        rest.0,
        further_from from count rest.0 rest.1,
        rest.2,
        λ k start below held. elim (cases_lt from k) [
          | inl after ↦ rest.3 k (omega arith) below held
          | inr at ↦ let same : k ≡ from = omega arith in absurd (out (subst P same held))
        ],
      )
    ]

-- each number is not among those after it
pub AllNew : List ℕ → Type 0
AllNew [] = Unit {0}
AllNew (x ∷ xs) = (¬ Contains xs x) × AllNew xs

further_above : (from count : ℕ) (further : List ℕ) → AreFurther from count further → (k : ℕ) → Contains further k → from ≤ k
further_above from count [] are k held = absurd (Contains-none k held)
further_above from count (j ∷ further) are k held =
    elim (Contains-cases j further k held) [
      | inl same ↦ omega (arith, same, are.0)
      | inr later ↦ omega (arith, further_above (j + 1) count further are.2 k later, are.0)
    ]

pub further_below : (from count : ℕ) (further : List ℕ) → AreFurther from count further → (k : ℕ) → Contains further k → k < count
further_below from count [] are k held = absurd (Contains-none k held)
further_below from count (j ∷ further) are k held =
    elim (Contains-cases j further k held) [
      | inl same ↦ omega (arith, same, are.1)
      | inr later ↦ further_below (j + 1) count further are.2 k later
    ]

pub further_new : (from count : ℕ) (further : List ℕ) → AreFurther from count further → AllNew further
unfolding AllNew
further_new from count [] are = tt
further_new from count (k ∷ further) are =
    (λ held. omega (arith, further_above (k + 1) count further are.2 k held), further_new (k + 1) count further are.2)

pub ordered_new : (xs : List ℕ) → ((i k : ℕ) → i < k → k < length xs → slice_index xs i < slice_index xs k) → AllNew xs
unfolding AllNew
ordered_new [] ordered = tt
ordered_new (x ∷ xs) ordered = (
  λ (k, within, is). let at : slice_index xs k ≡ x = same_at xs k x x within is in omega (arith, at, ordered 0 (suc k) (omega arith) (omega arith)),
  ordered_new xs (λ i k less within. ordered (suc i) (suc k) (omega arith) (omega arith)),
)

pub append_new : (xs ys : List ℕ) → AllNew xs → AllNew ys → ((k : ℕ) → Contains ys k → ¬ Contains xs k) → AllNew (xs ++ ys)
unfolding AllNew
append_new [] ys new new' apart = new'
append_new (x ∷ xs) ys new new' apart = (
  λ held. elim (Contains-append_cases xs ys x held) [ inl before ↦ new.0 before | inr after ↦ apart x after (Contains-front x xs) ],
  append_new xs ys new.1 new' (λ k held before. apart k held (Contains-later x xs k before)),
)

pub new_distinct : (xs : List ℕ) → AllNew xs → (i k : ℕ) → i < k → k < length xs → slice_index xs i ≢ slice_index xs k
unfolding AllNew
new_distinct [] new i k less within same = omega arith
new_distinct (x ∷ xs) new i zero less within same = omega arith
new_distinct (x ∷ xs) new zero (suc k) less within same =
    let here : k < length xs = omega arith in
    let held : Contains xs (slice_index xs k) = contains_at xs k here in
    new.0 (rw same held)
new_distinct (x ∷ xs) new (suc i) (suc k) less within same = new_distinct xs new.1 i k (omega arith) (omega arith) same
