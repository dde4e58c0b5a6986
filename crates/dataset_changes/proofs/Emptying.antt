-- Maps that are emptied from the front while plans are made.
use Rattle.std.proofs.Common.{ℕ, ◌≡◌, ◌≢◌, false, Option, Some, None, is_some, ⊎_elim, refl, sym, subst, ap, ◌∙◌}
use Rattle.std.specs.BTreeMap.{BTreeMap, IsEmpty, Updates, get, is_at}
use Rattle.std.specs.Map.{lookup}
use Rattle.std.specs.Ordering.{nat_cmp}
use Rattle.std.proofs.lemmas.Bool.{cases_eq}
use Rattle.objset.specs.declared.changes.Change.{Change}
use Rattle.dataset_changes.specs.Planned.{AreListsPlanned, AreRecordPlans, IsListPlanned, IsPlanned, ServesList, ServesRecord}
use Rattle.dataset_changes.specs.declared.states.ListState.{ListState}
use Rattle.dataset_changes.specs.declared.states.RecordState.{RecordState}
use Rattle.dataset_changes.proofs.Maps.{put_apart, put_here}

pub nothing_in : {X : Type 0} (map : BTreeMap ℕ X) → IsEmpty map → (q : ℕ) → get nat_cmp map q ≡ None
nothing_in map empty q = ap (lookup (is_at (nat_cmp q))) empty

-- what is left was there
abbrev pub IsLeftOf : {X : Type 0} → BTreeMap ℕ X → BTreeMap ℕ X → Type 0
IsLeftOf {X} all rest = (number : ℕ) (state : X) → get nat_cmp rest number ≡ Some state → get nat_cmp all number ≡ Some state

module _ {X : Type 0} (all rest less : BTreeMap ℕ X) (k : ℕ) (takes : Updates nat_cmp rest less k None) where
  -- what is left has another number
  other_number : (q : ℕ) (state : X) → get nat_cmp less q ≡ Some state → q ≢ k
  other_number q state is same = let clash : None ≡ Some state = sym (put_here rest less k None takes) ∙ subst (λ (n : ℕ). get nat_cmp less n ≡ Some state) same is in absurd cc

  pub was_left : (q : ℕ) (state : X) → get nat_cmp less q ≡ Some state → get nat_cmp rest q ≡ Some state
  was_left q state is = sym (put_apart rest less k None takes q (other_number q state is)) ∙ is

  pub still_left : IsLeftOf all rest → IsLeftOf all less
  still_left left q state is = left q state (was_left q state is)

-- ---- records

-- those that were taken have their plans
pub record RecordsSoFar (all rest : BTreeMap ℕ RecordState) (plans : BTreeMap ℕ (Option Change)) : Type 0 where
  pub left : IsLeftOf all rest
  pub planned : (number : ℕ) → get nat_cmp rest number ≡ None → IsPlanned ServesRecord (get nat_cmp all number) (get nat_cmp plans number)

pub records_start : (all : BTreeMap ℕ RecordState) (plans : BTreeMap ℕ (Option Change)) → IsEmpty plans → RecordsSoFar all all plans
records_start all plans empty = record {
  left = λ number state is. is;
  planned = λ number none. subst (λ (state : Option RecordState). IsPlanned ServesRecord state (get nat_cmp plans number)) (sym none) (nothing_in plans empty number);
}

pub records_go_on : (all rest less : BTreeMap ℕ RecordState) (plans more : BTreeMap ℕ (Option Change)) (k : ℕ) (state : RecordState) (plan : Option Change) → RecordsSoFar all rest plans
    → get nat_cmp rest k ≡ Some state → Updates nat_cmp rest less k None → ServesRecord state plan → Updates nat_cmp plans more k (Some plan) → RecordsSoFar all less more
records_go_on all rest less plans more k state plan so_far there takes serves puts = record {
  left = still_left all rest less k takes so_far.left;
  planned = λ q none.
      ⊎_elim
      (λ same.
      subst (λ (n : ℕ). IsPlanned ServesRecord (get nat_cmp all n) (get nat_cmp more n)) (sym same)
      (subst (λ (s : Option RecordState). IsPlanned ServesRecord s (get nat_cmp more k)) (sym (so_far.left k state there)) (plan, put_here plans more k (Some plan) puts, serves)))
      (λ apart.
      subst (λ (p : Option (Option Change)). IsPlanned ServesRecord (get nat_cmp all q) p) (sym (put_apart plans more k (Some plan) puts q apart))
      (so_far.planned q (sym (put_apart rest less k None takes q apart) ∙ none)))
      (cases_eq q k);
}

pub records_end : (all rest : BTreeMap ℕ RecordState) (plans : BTreeMap ℕ (Option Change)) → RecordsSoFar all rest plans → IsEmpty rest → AreRecordPlans all plans
records_end all rest plans so_far empty number = so_far.planned number (nothing_in rest empty number)

-- ---- dead lists

pub none_there : {X : Type 0} (found : Option X) → is_some found ≡ false → found ≡ None
none_there None none = refl
none_there (Some x) none = absurd cc

pub record ListsSoFar (all rest : BTreeMap ℕ ListState) (before plans : BTreeMap ℕ (Option Change)) : Type 0 where
  pub left : IsLeftOf all rest
  pub planned : (number : ℕ) → get nat_cmp rest number ≡ None → IsListPlanned (get nat_cmp all number) (get nat_cmp before number) (get nat_cmp plans number)
  pub kept : (number : ℕ) (state : ListState) → get nat_cmp rest number ≡ Some state → get nat_cmp plans number ≡ get nat_cmp before number

pub lists_start : (all : BTreeMap ℕ ListState) (plans : BTreeMap ℕ (Option Change)) → ListsSoFar all all plans plans
lists_start all plans = record {
  left = λ number state is. is;
  planned = λ number none. subst (λ (state : Option ListState). IsListPlanned state (get nat_cmp plans number) (get nat_cmp plans number)) (sym none) refl;
  kept = λ number state is. refl;
}

pub lists_go_on : (all rest less : BTreeMap ℕ ListState) (before plans more : BTreeMap ℕ (Option Change)) (k : ℕ) (state : ListState) (plan : Option Change) → ListsSoFar all rest before plans
    → get nat_cmp rest k ≡ Some state → get nat_cmp plans k ≡ None → Updates nat_cmp rest less k None → ServesList state plan → Updates nat_cmp plans more k (Some plan)
    → ListsSoFar all less before more
lists_go_on all rest less before plans more k state plan so_far there free takes serves puts = record {
  left = still_left all rest less k takes so_far.left;
  planned = λ q none.
      ⊎_elim
      (λ same.
      subst (λ (n : ℕ). IsListPlanned (get nat_cmp all n) (get nat_cmp before n) (get nat_cmp more n)) (sym same)
      (subst (λ (s : Option ListState). IsListPlanned s (get nat_cmp before k) (get nat_cmp more k)) (sym (so_far.left k state there))
      (sym (so_far.kept k state there) ∙ free, (plan, put_here plans more k (Some plan) puts, serves))))
      (λ apart.
      subst (λ (p : Option (Option Change)). IsListPlanned (get nat_cmp all q) (get nat_cmp before q) p) (sym (put_apart plans more k (Some plan) puts q apart))
      (so_far.planned q (sym (put_apart rest less k None takes q apart) ∙ none)))
      (cases_eq q k);
  kept = λ q one is.
      put_apart plans more k (Some plan) puts q (other_number all rest less k takes q one is) ∙ so_far.kept q one (was_left all rest less k takes q one is);
}

pub lists_end : (all rest : BTreeMap ℕ ListState) (before plans : BTreeMap ℕ (Option Change)) → ListsSoFar all rest before plans → IsEmpty rest → AreListsPlanned all before plans
lists_end all rest before plans so_far empty number = so_far.planned number (nothing_in rest empty number)
