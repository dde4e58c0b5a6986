-- Functions of numbers with another value at one number.
use Rattle.std.proofs.Common.{ℕ, ◌≡◌, ◌≢◌, inl, inr, refl, sym, subst}
use Rattle.std.proofs.lemmas.Bool.{cond-true, cond-false, eq-eqb, ne_eqb, cases_eq, and_left, and_right, and_from}
use Rattle.dead_list.specs.Datasets.{updated, passed}

pub same_at : {X : Type 0} (s : ℕ → X) (n : ℕ) (d : X) → updated s n d n ≡ d
same_at s n d = cond-true _ _ _ (eq-eqb n n refl)

pub other_at : {X : Type 0} (s : ℕ → X) (n : ℕ) (d : X) (m : ℕ) → m ≢ n → updated s n d m ≡ s m
other_at s n d m ne = cond-false _ _ _ (ne_eqb m n ne)

-- what holds of the new value at its number and of the others at theirs holds of each
pub at_each : {X : Type 0} (s : ℕ → X) (n : ℕ) (d : X) (P : ℕ → X → Type 0) → P n d → ((m : ℕ) → m ≢ n → P m (s m)) → (m : ℕ) → P m (updated s n d m)
at_each s n d P here there m = elim (cases_eq m n) [
  | inl e ↦ subst (λ (k : ℕ). P k (updated s n d k)) (sym e) (subst (λ x. P n x) (sym (same_at s n d)) here)
  | inr ne ↦ subst (λ x. P m x) (sym (other_at s n d m ne)) (there m ne)
]

pub passed_not : (next : ℕ → ℕ) (before from to m : ℕ) → (m ≡ before → next before ≢ from) → passed next before from to m ≡ next m
passed_not next before from to m not = elim (cases_eq m before) [
  | inl e ↦ cond-false _ _ _ (and_right _ _ (ne_eqb (next before) from (not e)))
  | inr ne ↦ cond-false _ _ _ (and_left _ _ (ne_eqb m before ne))
]

pub passed_at : (next : ℕ → ℕ) (before from to m : ℕ) → m ≡ before → next before ≡ from → passed next before from to m ≡ to
passed_at next before from to m e f = cond-true _ _ _ (and_from _ _ (eq-eqb m before e) (eq-eqb (next before) from f))
