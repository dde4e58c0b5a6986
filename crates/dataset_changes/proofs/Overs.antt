-- Changes are of the objects after each step too.
use Rattle.std.proofs.Common.{ℕ, Option, ⊎_elim, sym, subst}
use Rattle.std.proofs.lemmas.Bool.{cases_eq}
use Rattle.objset.specs.Objects.{Object}
use Rattle.dataset_changes.specs.Over.{AreOver, IsListOver, IsRecordOver}
use Rattle.dataset_changes.specs.States.{HasListPut, HasRecordPut, HaveSameLists, HaveSameRecords, list_at, record_at}
use Rattle.dataset_changes.specs.declared.changes.DatasetChanges.{DatasetChanges}
use Rattle.dataset_changes.specs.declared.states.ListState.{ListState}
use Rattle.dataset_changes.specs.declared.states.RecordState.{RecordState}

module _ (objects : ℕ → Option Object) (old new : DatasetChanges) (over : AreOver objects old) where
  same_records_over : HaveSameRecords old new → (q : ℕ) → IsRecordOver (objects q) (record_at new q)
  same_records_over same q = subst (λ (state : Option RecordState). IsRecordOver (objects q) state) (sym (same q)) (over.records q)

  same_lists_over : HaveSameLists old new → (q : ℕ) → IsListOver (objects q) (list_at new q)
  same_lists_over same q = subst (λ (state : Option ListState). IsListOver (objects q) state) (sym (same q)) (over.lists q)

  pub over_same : HaveSameRecords old new → HaveSameLists old new → AreOver objects new
  over_same same_records same_lists = record { records = same_records_over same_records; lists = same_lists_over same_lists }

  pub over_record : (number : ℕ) (state : Option RecordState) → HasRecordPut old number state new → HaveSameLists old new → IsRecordOver (objects number) state → AreOver objects new
  over_record number state put same_lists is = record {
    records = λ q.
        ⊎_elim
        (λ same. subst (λ (n : ℕ). IsRecordOver (objects n) (record_at new n)) (sym same) (subst (λ (s : Option RecordState). IsRecordOver (objects number) s) (sym put.0) is))
        (λ apart. subst (λ (s : Option RecordState). IsRecordOver (objects q) s) (sym (put.1 q apart)) (over.records q))
        (cases_eq q number);
    lists = same_lists_over same_lists;
  }

  pub over_list : (number : ℕ) (state : Option ListState) → HasListPut old number state new → HaveSameRecords old new → IsListOver (objects number) state → AreOver objects new
  over_list number state put same_records is = record {
    records = same_records_over same_records;
    lists = λ q.
        ⊎_elim
        (λ same. subst (λ (n : ℕ). IsListOver (objects n) (list_at new n)) (sym same) (subst (λ (s : Option ListState). IsListOver (objects number) s) (sym put.0) is))
        (λ apart. subst (λ (s : Option ListState). IsListOver (objects q) s) (sym (put.1 q apart)) (over.lists q))
        (cases_eq q number);
  }
