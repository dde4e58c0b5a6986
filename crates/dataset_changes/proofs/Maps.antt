-- Maps by number, after what is put in them.
use Rattle.std.specs.Result.{OnErr, OnOk}
use Rattle.std.proofs.Common.{ℕ, ◌≡◌, ◌≢◌, ◌⊎◌, false, Option, Some, None, Result, Ok, Err, IfSome, inl, inr, ⊎_elim, refl, sym, subst, ap, ◌∙◌}
use Rattle.std.specs.BTreeMap.{BTreeMap, IsUnchanged, Updates, get, is_at}
use Rattle.std.specs.Map.{lookup}
use Rattle.std.specs.Ordering.{nat_cmp}
use Rattle.std.proofs.lemmas.Bool.{cases_eq}
use Rattle.std.proofs.lemmas.Map.Lookups.{exact_unsigned}
use Rattle.std.specs.declared.cmp.Ordering.{Ordering}
use Rattle.std.specs.declared.cmp.Ordering.TheVariants.{Less, Equal, Greater}
use Rattle.std.specs.Ordering.{is_eq}
use Rattle.dataset_changes.specs.Fitting.{FitLists, FitsListState}
use Rattle.dataset_changes.specs.Numbers.{IsNumber}
use Rattle.dataset_changes.specs.declared.states.ListState.{ListState}

not_equal : (order : Ordering) → (order ≡ Equal → ⊥) → is_eq order ≡ false
not_equal Less apart = refl
not_equal Equal apart = absurd (apart refl)
not_equal Greater apart = refl

pub at_other : (k q : ℕ) → q ≢ k → is_at (nat_cmp k) q ≡ false
at_other k q apart = not_equal (nat_cmp k q) (λ same. apart (sym (exact_unsigned k q same)))

module _ {X : Type 0} (old new : BTreeMap ℕ X) (k : ℕ) (state : Option X) (updates : Updates nat_cmp old new k state) where
  pub put_here : get nat_cmp new k ≡ state
  put_here = updates.1

  pub put_apart : (q : ℕ) → q ≢ k → get nat_cmp new q ≡ get nat_cmp old q
  put_apart q apart = updates.2 q (at_other k q apart)

  -- what stands there now was put there, or stood there before
  pub put_or_kept : (q : ℕ) (x : X) → get nat_cmp new q ≡ Some x → ((q ≡ k) × (state ≡ Some x)) ⊎ (get nat_cmp old q ≡ Some x)
  put_or_kept q x is =
      ⊎_elim (λ same. inl (same, sym updates.1 ∙ subst (λ (n : ℕ). get nat_cmp new n ≡ Some x) same is)) (λ apart. inr (sym (put_apart q apart) ∙ is)) (cases_eq q k)

pub same_entries : {X : Type 0} (old new : BTreeMap ℕ X) → IsUnchanged old new → (q : ℕ) → get nat_cmp new q ≡ get nat_cmp old q
same_entries {X} old new same q = ap (lookup (is_at (nat_cmp q))) same

-- ---- lists still fit

pub fit_with : (old new : BTreeMap ℕ ListState) (k : ℕ) (state : ListState) → FitLists old → FitsListState state → IsNumber k → Updates nat_cmp old new k (Some state) → FitLists new
fit_with old new k state fit fits number updates = record {
  fit = λ q x is.
      ⊎_elim (λ put. let same : state ≡ x = let e : Some state ≡ Some x = put.1 in cc in subst (λ (s : ListState). FitsListState s) same fits) (λ kept. fit.fit q x kept)
      (put_or_kept old new k (Some state) updates q x is);
  numbers = λ q x is.
      ⊎_elim (λ put. subst (λ (n : ℕ). IsNumber n) (sym put.0) number) (λ kept. fit.numbers q x kept) (put_or_kept old new k (Some state) updates q x is);
}

pub fit_without : (old new : BTreeMap ℕ ListState) (k : ℕ) → FitLists old → Updates nat_cmp old new k None → FitLists new
fit_without old new k fit updates = record {
  fit = λ q x is. ⊎_elim (λ put. let e : None ≡ Some x = put.1 in absurd cc) (λ kept. fit.fit q x kept) (put_or_kept old new k None updates q x is);
  numbers = λ q x is. ⊎_elim (λ put. let e : None ≡ Some x = put.1 in absurd cc) (λ kept. fit.numbers q x kept) (put_or_kept old new k None updates q x is);
}

pub fit_inserted : {T E : Type 0} (result : Result T E) (old new : BTreeMap ℕ ListState) (k : ℕ) (state : ListState) → FitLists old → FitsListState state → IsNumber k
    → OnOk result (Updates nat_cmp old new k (Some state)) → OnErr result (IsUnchanged old new) → FitLists new
fit_inserted (Ok x) old new k state fit fits number updates same = fit_with old new k state fit fits number updates
fit_inserted (Err e) old new k state fit fits number updates same = record {
  fit = λ q x is. fit.fit q x (sym (same_entries old new same q) ∙ is);
  numbers = λ q x is. fit.numbers q x (sym (same_entries old new same q) ∙ is);
}

pub fits_if_there : (lists : BTreeMap ℕ ListState) (k : ℕ) (found : Option ListState) → FitLists lists → found ≡ get nat_cmp lists k → IfSome found FitsListState
fits_if_there lists k None fit is = tt
fits_if_there lists k (Some state) fit is = fit.fit k state (sym is)
