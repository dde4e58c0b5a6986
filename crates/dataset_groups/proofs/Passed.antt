-- What comes next to snapshots, once one stands elsewhere.
use Rattle.std.proofs.Common.{◌≡◌, ◌≢◌, ◌⊎◌, ℕ, inl, inr}
use Rattle.std.proofs.lemmas.Bool.{cases_eq}
use Rattle.dead_list.specs.Datasets.{passed}
use Rattle.dead_list.proofs.Updates.{passed_at, passed_not}

-- something else comes next to this one, or the same
pub passed_cases : (next : ℕ → ℕ) (before from to m : ℕ)
    → ((m ≡ before) × (next before ≡ from) × (passed next before from to m ≡ to)) ⊎ ((m ≡ before → next before ≢ from) × (passed next before from to m ≡ next m))
passed_cases next before from to m = elim (cases_eq m before) [
  | inl e ↦ elim (cases_eq (next before) from) [
    | inl f ↦ inl (e, f, passed_at next before from to m e f)
    | inr other ↦ inr ((λ is. other), passed_not next before from to m (λ is. other))
  ]
  | inr ne ↦ inr ((λ is. absurd (ne is)), passed_not next before from to m (λ is. absurd (ne is)))
]
