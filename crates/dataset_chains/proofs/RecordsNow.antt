-- Records and dead lists, once something was read or is put at a number.
use Rattle.std.proofs.Common.{◌≡◌, ◌≢◌, ◌↔◌, ℕ, List, Option, Some, None, inl, inr, refl, sym, ap, subst, ◌∙◌}
use Rattle.std.proofs.lemmas.Bool.{cases_eq}
use Rattle.block_pointer.specs.declared.block.Block.{Block}
use Rattle.dataset_changes.specs.Over.{HasListNow, HasRecordNow, IsListNow, IsRecordNow}
use Rattle.dataset_changes.specs.States.{HasRecordPut, list_at, once_read, record_at, with_record}
use Rattle.dataset_changes.specs.declared.changes.DatasetChanges.{DatasetChanges}
use Rattle.dataset_changes.specs.declared.states.RecordState.{RecordState}
use Rattle.dataset_changes.specs.declared.states.RecordState.TheVariants as records
use Rattle.meta_objset.specs.Datasets.{HasRecord}
use Rattle.meta_objset.specs.declared.record.DatasetRecord.{DatasetRecord}
use Rattle.objset.specs.Objects.{Object}
use Rattle.dataset_chains.specs.Laws.{DatasetsHaveOneRecord}
use Rattle.dataset_chains.specs.Passing.{IsRecordAlone, KeepsRecords}
use Rattle.dataset_chains.proofs.OneRecord.{one_record}

put_is : (object : Option Object) (state : Option RecordState) (r s : DatasetRecord) → IsRecordNow object (Some (with_record state r)) s ↔ (s ≡ r)
put_is object None r s = (λ e. e, λ e. e)
put_is object (Some (records.Read one)) r s = (λ e. e, λ e. e)
put_is object (Some (records.Changed one)) r s = (λ e. e, λ e. e)
put_is object (Some (records.Made one)) r s = (λ e. e, λ e. e)
put_is object (Some records.Gone) r s = (λ e. e, λ e. e)

read_is : (object : Option Object) (state : Option RecordState) (found s : DatasetRecord) → IsRecordNow object state found → ((r : DatasetRecord) → IsRecordNow object state r → r ≡ found)
    → IsRecordNow object (Some (once_read state found)) s ↔ IsRecordNow object state s
read_is object None found s is one = (λ e. subst (λ (r : DatasetRecord). HasRecord object r) (sym e) is, one s)
read_is object (Some state) found s is one = (λ there. there, λ there. there)

read_keeps : (state : Option RecordState) (found : DatasetRecord) → state ≢ None → Some (once_read state found) ≡ state
read_keeps None found some = absurd (some refl)
read_keeps (Some state) found some = refl

record_now_one : (object : Option Object) (state : Option RecordState) (r s : DatasetRecord) → IsRecordNow object state r → IsRecordNow object state s → r ≡ s
record_now_one object None r s one two = one_record object r s one two
record_now_one object (Some (records.Read x)) r s one two = one ∙ sym two
record_now_one object (Some (records.Changed x)) r s one two = one ∙ sym two
record_now_one object (Some (records.Made x)) r s one two = one ∙ sym two
record_now_one object (Some records.Gone) r s one two = absurd one

pub one_record_now : DatasetsHaveOneRecord
one_record_now objects changes number r s one two = record_now_one (objects number) (record_at changes number) r s one two

module _ (objects : ℕ → Option Object) where
  pub lists_as_one : (changes : DatasetChanges) (m : ℕ) (r s : DatasetRecord) → HasRecordNow objects changes m r → HasRecordNow objects changes m s → r.dead_list ≡ s.dead_list
  lists_as_one changes m r s one two = ap (λ (t : DatasetRecord). t.dead_list) (one_record_now objects changes m r s one two)

  module _ (old new : DatasetChanges) where
    pub record_stays : (m : ℕ) (r : DatasetRecord) → record_at new m ≡ record_at old m → HasRecordNow objects old m r → HasRecordNow objects new m r
    record_stays m r e there = subst (λ (state : Option RecordState). IsRecordNow (objects m) state r) (sym e) there

    pub record_was : (m : ℕ) (r : DatasetRecord) → record_at new m ≡ record_at old m → HasRecordNow objects new m r → HasRecordNow objects old m r
    record_was m r e there = subst (λ (state : Option RecordState). IsRecordNow (objects m) state r) e there

    pub list_stays : (m : ℕ) (list : List Block) → list_at new m ≡ list_at old m → HasListNow objects old m list → HasListNow objects new m list
    list_stays m list e there = subst (λ state. IsListNow (objects m) state list) (sym e) there

    -- a record that is put in place of one
    pub put_alone : (n : ℕ) (r : DatasetRecord) → HasRecordPut old n (Some (with_record (record_at old n) r)) new → IsRecordAlone objects new n r
    put_alone n r put s =
        let is = put_is (objects n) (record_at old n) r s in (
          λ there. is.0 (subst (λ (state : Option RecordState). IsRecordNow (objects n) state s) put.0 there),
          λ e. subst (λ (state : Option RecordState). IsRecordNow (objects n) state s) (sym put.0) (is.1 e),
        )

    pub made_alone : (n : ℕ) (r : DatasetRecord) → record_at new n ≡ Some (records.Made r) → IsRecordAlone objects new n r
    made_alone n r made s = (
      λ there. subst (λ (state : Option RecordState). IsRecordNow (objects n) state s) made there,
      λ e. subst (λ (state : Option RecordState). IsRecordNow (objects n) state s) (sym made) e,
    )

    -- once one was read, all are what they were
    pub read_same : (n : ℕ) (found : DatasetRecord) → HasRecordPut old n (Some (once_read (record_at old n) found)) new → HasRecordNow objects old n found
        → ((r : DatasetRecord) → HasRecordNow objects old n r → r ≡ found) → (m : ℕ) (r : DatasetRecord) → HasRecordNow objects new m r ↔ HasRecordNow objects old m r
    read_same n found put is one m r = elim (cases_eq m n) [
      | inl e ↦
          let same = read_is (objects n) (record_at old n) found r is one in
          subst (λ (k : ℕ). HasRecordNow objects new k r ↔ HasRecordNow objects old k r) (sym e) (
            λ there. same.0 (subst (λ (state : Option RecordState). IsRecordNow (objects n) state r) put.0 there),
            λ there. subst (λ (state : Option RecordState). IsRecordNow (objects n) state r) (sym put.0) (same.1 there),
          )
      | inr ne ↦ (record_was m r (put.1 m ne), record_stays m r (put.1 m ne))
    ]

    pub read_kept : (n : ℕ) (found : DatasetRecord) → HasRecordPut old n (Some (once_read (record_at old n) found)) new → KeepsRecords old new
    read_kept n found put m some = elim (cases_eq m n) [
      | inl e ↦
          subst (λ (k : ℕ). record_at new k ≡ record_at old k) (sym e)
          (put.0 ∙ read_keeps (record_at old n) found (λ none. some (ap (λ (k : ℕ). record_at old k) e ∙ none)))
      | inr ne ↦ put.1 m ne
    ]
