-- What the planned changes give.
use Rattle.std.proofs.Common.{ℕ, ◌≡◌, ◌≢◌, ◌⊎◌, List, Option, Some, None, IfSome, inl, inr, refl, sym, subst, ap, ◌∙◌, arith}
use Rattle.std.specs.BTreeMap.{BTreeMap, IsOrdered, get}
use Rattle.std.specs.Ordering.{nat_cmp}
use Rattle.block_pointer.specs.declared.block.Block.{Block}
use Rattle.dead_list_objects.specs.Lists.{HasDeadList, dead_list_kind}
use Rattle.meta_objset.specs.Datasets.{HasRecord, IsRecordObject}
use Rattle.meta_objset.specs.declared.record.DatasetRecord.{DatasetRecord}
use Rattle.object_table.specs.Tables.{IsOfKind}
use Rattle.objset.specs.Changes.{IsGoodChange, MayChange}
use Rattle.objset.specs.Objects.{Object}
use Rattle.objset.specs.declared.changes.Change.{Change}
use Rattle.dataset_changes.specs.Fitting.{FitLists, FitRecords}
use Rattle.dataset_changes.specs.Numbers.{IsNumber}
use Rattle.dataset_changes.specs.Over.{IsListNow, IsListOver, IsRecordNow, IsRecordOver}
use Rattle.dataset_changes.specs.Planned.{AreListsPlanned, AreRecordPlans, IsListPlanned, IsPlanned, ServesList, ServesRecord, changes_of}
use Rattle.dataset_changes.specs.Results.{AreChangesOf, IsRecordChanged}
use Rattle.dataset_changes.specs.States.{list_at, record_at}
use Rattle.dataset_changes.specs.declared.changes.DatasetChanges.{DatasetChanges}
use Rattle.dataset_changes.specs.declared.states.ListState.{ListState}
use Rattle.dataset_changes.specs.declared.states.ListState.TheVariants as lists
use Rattle.dataset_changes.specs.declared.states.RecordState.{RecordState}
use Rattle.dataset_changes.specs.declared.states.RecordState.TheVariants as records
use Rattle.dataset_changes.proofs.Ordered.{after_planned, changed_is, changes_hold, changes_ordered}

-- what is planned where this became of a record and of a list
abbrev IsPlannedFor : Option RecordState → Option ListState → Option (Option Change) → Type 0
IsPlannedFor None None plan = plan ≡ None
IsPlannedFor (Some r) None plan = (change : Option Change) × (plan ≡ Some change) × ServesRecord r change
IsPlannedFor None (Some l) plan = (change : Option Change) × (plan ≡ Some change) × ServesList l change
IsPlannedFor (Some r) (Some l) plan = ⊥

both_planned : (r : Option RecordState) (l : Option ListState) (first plan : Option (Option Change)) → IsPlanned ServesRecord r first → IsListPlanned l first plan → IsPlannedFor r l plan
both_planned None None first plan one two = two ∙ one
both_planned (Some r) None first plan one two = (one.0, two ∙ one.1, one.2)
both_planned None (Some l) first plan one two = two.1
both_planned (Some r) (Some l) first plan one two = let clash : None ≡ Some one.0 = sym two.0 ∙ one.1 in absurd cc

-- ---- of a change

same_plan : (plan : Option (Option Change)) (found : Option Change) (change : Change) → plan ≡ Some found → plan ≡ Some (Some change) → found ≡ Some change
same_plan plan found change one two = let e : Some found ≡ Some (Some change) = sym one ∙ two in cc

touched_by : (r : Option RecordState) (l : Option ListState) (plan : Option (Option Change)) (change : Change) → IsPlannedFor r l plan → plan ≡ Some (Some change) → IsRecordChanged r ⊎ (l ≢ None)
touched_by None None plan change planned is = let clash : None ≡ Some (Some change) = sym planned ∙ is in absurd cc
touched_by (Some r) None plan change planned is = inl (
  λ none. cc,
  λ one read.
      let same : r ≡ records.Read one = cc in
      subst (λ (p : Option Change). IfSome p (λ c. (other : DatasetRecord) → r ≢ records.Read other)) (same_plan plan planned.0 change planned.1 is) planned.2.changed one same,
)
touched_by None (Some l) plan change planned is = inr (λ none. cc)
touched_by (Some r) (Some l) plan change planned is = absurd planned

number_by : (all : BTreeMap ℕ RecordState) (others : BTreeMap ℕ ListState) (number : ℕ) (r : Option RecordState) (l : Option ListState) → FitRecords all → FitLists others → get nat_cmp all number ≡ r → get nat_cmp others number ≡ l
    → IsRecordChanged r ⊎ (l ≢ None) → IsNumber number
number_by all others number None l fit_records fit_lists r_is l_is (inl some) = absurd (some.0 refl)
number_by all others number (Some r) l fit_records fit_lists r_is l_is (inl some) = fit_records.numbers number r r_is
number_by all others number r None fit_records fit_lists r_is l_is (inr some) = absurd (some refl)
number_by all others number r (Some l) fit_records fit_lists r_is l_is (inr some) = fit_lists.numbers number l l_is

good_by : (r : Option RecordState) (l : Option ListState) (plan : Option (Option Change)) (change : Change) → IsPlannedFor r l plan → plan ≡ Some (Some change) → IsGoodChange change
good_by None None plan change planned is = let clash : None ≡ Some (Some change) = sym planned ∙ is in absurd cc
good_by (Some r) None plan change planned is = subst (λ (p : Option Change). IfSome p IsGoodChange) (same_plan plan planned.0 change planned.1 is) planned.2.good
good_by None (Some l) plan change planned is = subst (λ (p : Option Change). IfSome p IsGoodChange) (same_plan plan planned.0 change planned.1 is) planned.2.good
good_by (Some r) (Some l) plan change planned is = absurd planned

-- ---- over an object

module _ (object : Option Object) where
  may_by : (r : Option RecordState) (l : Option ListState) (plan : Option (Option Change)) (change : Change) → IsPlannedFor r l plan → plan ≡ Some (Some change) → IsRecordOver object r → IsListOver object l
      → MayChange change object
  may_by None None plan change planned is of_record of_list = let clash : None ≡ Some (Some change) = sym planned ∙ is in absurd cc
  may_by (Some r) None plan change planned is of_record of_list =
      subst (λ (p : Option Change). IfSome p (λ c. MayChange c object)) (same_plan plan planned.0 change planned.1 is) (planned.2.may object of_record)
  may_by None (Some l) plan change planned is of_record of_list =
      subst (λ (p : Option Change). IfSome p (λ c. MayChange c object)) (same_plan plan planned.0 change planned.1 is) (planned.2.may object of_list)
  may_by (Some r) (Some l) plan change planned is of_record of_list = absurd planned

  -- an object for a record is none for a list
  other_kinds : (one other : Object) → object ≡ Some one → object ≡ Some other → IsRecordObject one → IsOfKind dead_list_kind other → ⊥
  other_kinds one other is_one is_other of_record of_list =
      let both : Some one ≡ Some other = sym is_one ∙ is_other in
      let same : one ≡ other = cc in
      let types : one.object_type ≡ other.object_type = ap (λ (o : Object). o.object_type) same in
      let first : one.object_type ≡ 201 = of_record.object_type in
      let second : other.object_type ≡ 202 = of_list.0 in
      omega arith

  record_or_list : (there : Object) (l : ListState) → object ≡ Some there → IsRecordObject there → IsListOver object (Some l) → ⊥
  record_or_list there (lists.Added end blocks) is of_record of_list = other_kinds there of_list.2.table.there is of_list.2.table.is of_record of_list.2.table.of_kind
  record_or_list there (lists.Whole list) is of_record of_list = other_kinds there of_list.0 is of_list.1 of_record of_list.2
  record_or_list there (lists.Made list) is of_record of_list = let clash : None ≡ Some there = sym of_list ∙ is in absurd cc
  record_or_list there lists.Gone is of_record of_list = other_kinds there of_list.0 is of_list.1 of_record of_list.2

  list_or_record : (there : Object) (r : RecordState) → object ≡ Some there → IsOfKind dead_list_kind there → IsRecordOver object (Some r) → ⊥
  list_or_record there (records.Read one) is of_list of_record = other_kinds of_record.there there of_record.is is of_record.of_record of_list
  list_or_record there (records.Changed one) is of_list of_record = other_kinds of_record.0 there of_record.1 is of_record.2 of_list
  list_or_record there (records.Made one) is of_list of_record = let clash : None ≡ Some there = sym of_record ∙ is in absurd cc
  list_or_record there records.Gone is of_list of_record = other_kinds of_record.0 there of_record.1 is of_record.2 of_list

  record_by : (r : Option RecordState) (l : Option ListState) (plan : Option (Option Change)) → IsPlannedFor r l plan → IsRecordOver object r → IsListOver object l → (one : DatasetRecord) → IsRecordNow object r one
      → HasRecord (after_planned plan object) one
  record_by None None plan planned of_record of_list one now = subst (λ (p : Option (Option Change)). HasRecord (after_planned p object) one) (sym planned) now
  record_by (Some r) None plan planned of_record of_list one now =
      subst (λ (p : Option (Option Change)). HasRecord (after_planned p object) one) (sym planned.1) (planned.2.now object of_record one now)
  record_by None (Some l) plan planned of_record of_list one now = absurd (record_or_list now.there l now.is now.of_record of_list)
  record_by (Some r) (Some l) plan planned of_record of_list one now = absurd planned

  list_by : (r : Option RecordState) (l : Option ListState) (plan : Option (Option Change)) → IsPlannedFor r l plan → IsRecordOver object r → IsListOver object l → (list : List Block) → IsListNow object l list
      → HasDeadList (after_planned plan object) list
  list_by None None plan planned of_record of_list list now = subst (λ (p : Option (Option Change)). HasDeadList (after_planned p object) list) (sym planned) now
  list_by (Some r) None plan planned of_record of_list list now = absurd (list_or_record now.1.there r now.1.is now.1.of_kind of_record)
  list_by None (Some l) plan planned of_record of_list list now =
      subst (λ (p : Option (Option Change)). HasDeadList (after_planned p object) list) (sym planned.1) (planned.2.now object of_list list now)
  list_by (Some r) (Some l) plan planned of_record of_list list now = absurd planned

  gone_by : (r : Option RecordState) (l : Option ListState) (plan : Option (Option Change)) → IsPlannedFor r l plan → (r ≡ Some records.Gone) ⊎ (l ≡ Some lists.Gone) → after_planned plan object ≡ None
  gone_by None None plan planned (inl gone) = absurd cc
  gone_by None None plan planned (inr gone) = absurd cc
  gone_by (Some r) None plan planned (inl gone) =
      let is : r ≡ records.Gone = cc in ap (λ (p : Option (Option Change)). after_planned p object) planned.1 ∙ planned.2.gone object is
  gone_by (Some r) None plan planned (inr gone) = absurd cc
  gone_by None (Some l) plan planned (inl gone) = absurd cc
  gone_by None (Some l) plan planned (inr gone) =
      let is : l ≡ lists.Gone = cc in ap (λ (p : Option (Option Change)). after_planned p object) planned.1 ∙ planned.2.gone object is
  gone_by (Some r) (Some l) plan planned gone = absurd planned

  other_by : (r : Option RecordState) (l : Option ListState) (plan : Option (Option Change)) → IsPlannedFor r l plan → r ≡ None → l ≡ None → after_planned plan object ≡ object
  other_by None None plan planned no_record no_list = ap (λ (p : Option (Option Change)). after_planned p object) planned
  other_by (Some r) l plan planned no_record no_list = absurd cc
  other_by None (Some l) plan planned no_record no_list = absurd cc

-- ---- all of them

module _ (changes : DatasetChanges) (first plans : BTreeMap ℕ (Option Change)) (ordered : IsOrdered nat_cmp plans) (of_records : AreRecordPlans changes.records first) (of_lists : AreListsPlanned changes.lists first plans) where
  planned : (q : ℕ) → IsPlannedFor (record_at changes q) (list_at changes q) (get nat_cmp plans q)
  planned q = both_planned (record_at changes q) (list_at changes q) (get nat_cmp first q) (get nat_cmp plans q) (of_records q) (of_lists q)

  touched : (q : ℕ) (change : Change) → get nat_cmp plans q ≡ Some (Some change) → IsRecordChanged (record_at changes q) ⊎ (list_at changes q ≢ None)
  touched q change is = touched_by (record_at changes q) (list_at changes q) (get nat_cmp plans q) change (planned q) is

  pub planned_changes : AreChangesOf changes (changes_of plans.entries)
  planned_changes = record {
    order = changes_ordered plans.entries ordered;
    numbers = changes_hold (λ q change. IsNumber q) plans.entries ordered
        (λ q change is. number_by changes.records changes.lists q (record_at changes q) (list_at changes q) changes.records_fit changes.lists_fit refl refl (touched q change is));
    good = changes_hold (λ q change. IsGoodChange change) plans.entries ordered
        (λ q change is. good_by (record_at changes q) (list_at changes q) (get nat_cmp plans q) change (planned q) is);
    touched = changes_hold (λ q change. IsRecordChanged (record_at changes q) ⊎ (list_at changes q ≢ None)) plans.entries ordered touched;
    over = λ objects over. record {
      may = changes_hold (λ q change. MayChange change (objects q)) plans.entries ordered
          (λ q change is. may_by (objects q) (record_at changes q) (list_at changes q) (get nat_cmp plans q) change (planned q) is (over.records q) (over.lists q));
      records = λ q one now.
          subst (λ (o : Option Object). HasRecord o one) (sym (changed_is plans.entries ordered objects q))
          (record_by (objects q) (record_at changes q) (list_at changes q) (get nat_cmp plans q) (planned q) (over.records q) (over.lists q) one now);
      lists = λ q list now.
          subst (λ (o : Option Object). HasDeadList o list) (sym (changed_is plans.entries ordered objects q))
          (list_by (objects q) (record_at changes q) (list_at changes q) (get nat_cmp plans q) (planned q) (over.records q) (over.lists q) list now);
      gone = λ q is. changed_is plans.entries ordered objects q ∙ gone_by (objects q) (record_at changes q) (list_at changes q) (get nat_cmp plans q) (planned q) is;
      others = λ q no_record no_list.
          changed_is plans.entries ordered objects q ∙ other_by (objects q) (record_at changes q) (list_at changes q) (get nat_cmp plans q) (planned q) no_record no_list;
    };
  }
