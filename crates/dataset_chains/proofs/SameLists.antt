-- Records that keep their dead lists.
use Rattle.std.proofs.Common.{◌≡◌, ◌≢◌, ◌⊎◌, ◌∙◌, ℕ, Option, Some, None, inl, inr, refl, sym, ap, subst}
use Rattle.std.proofs.lemmas.Bool.{cases_eq}
use Rattle.dataset_changes.specs.Over.{HasRecordNow, IsRecordNow, IsRecordOver}
use Rattle.dataset_changes.specs.States.{HasRecordPut, HaveSameRecords, record_at, with_record}
use Rattle.dataset_changes.specs.declared.changes.DatasetChanges.{DatasetChanges}
use Rattle.dataset_changes.specs.declared.states.RecordState.{RecordState}
use Rattle.dataset_changes.specs.declared.states.RecordState.TheVariants as records
use Rattle.meta_objset.specs.Datasets.{HasRecord}
use Rattle.meta_objset.specs.declared.record.DatasetRecord.{DatasetRecord}
use Rattle.objset.specs.Objects.{Object}
use Rattle.dataset_chains.specs.Passing.{IsRecordAlone, KeepsRecords}
use Rattle.dataset_chains.specs.Refused.{HasKnown}
use Rattle.dataset_chains.specs.Touched.{AreAtMostRead, HasSameList, IsAtMostRead, KeepsDeadLists}
use Rattle.dataset_chains.proofs.Chained.{known_there}
use Rattle.dataset_chains.proofs.OneRecord.{one_record}
use Rattle.dataset_chains.proofs.RecordsNow.{one_record_now}
use Rattle.dataset_chains.proofs.Touching.{put_known, still_known}

-- a record that is known is the one now
pub known_now : (objects : ℕ → Option Object) (changes : DatasetChanges) (n : ℕ) (r : DatasetRecord) → HasKnown changes n r → HasRecordNow objects changes n r
known_now objects changes n r (inl is) = subst (λ (state : Option RecordState). IsRecordNow (objects n) state r) (sym is) refl
known_now objects changes n r (inr (inl is)) = subst (λ (state : Option RecordState). IsRecordNow (objects n) state r) (sym is) refl
known_now objects changes n r (inr (inr is)) = subst (λ (state : Option RecordState). IsRecordNow (objects n) state r) (sym is) refl

-- and there is no other
known_one : (changes : DatasetChanges) (n : ℕ) (r s : DatasetRecord) → HasKnown changes n r → HasKnown changes n s → r ≡ s
known_one changes n r s one two = one_record_now (λ m. None) changes n r s (known_now (λ m. None) changes n r one) (known_now (λ m. None) changes n s two)

by_states : (object : Option Object) (old mid : Option RecordState) (found r : DatasetRecord) → IsAtMostRead old mid → IsRecordOver object mid
    → ((s : DatasetRecord) → IsRecordNow object mid s → s ≡ found) → IsRecordNow object old r → r ≡ found
by_states object old mid found r (inl same) over alone is = alone r (subst (λ (state : Option RecordState). IsRecordNow object state r) (sym same) is)
by_states object old mid found r (inr read) over alone is =
    let x : DatasetRecord = read.1.0 in
    let before : HasRecord object r = subst (λ (state : Option RecordState). IsRecordNow object state r) read.0 is in
    let there : HasRecord object x = subst (λ (state : Option RecordState). IsRecordOver object state) read.1.1 over in
    one_record object r x before there ∙ alone x (subst (λ (state : Option RecordState). IsRecordNow object state x) (sym read.1.1) refl)

-- what was read is what the record was
pub was_read : (objects : ℕ → Option Object) (old mid : DatasetChanges) (n : ℕ) (found r : DatasetRecord) → AreAtMostRead old mid → IsRecordOver (objects n) (record_at mid n)
    → IsRecordAlone objects mid n found → HasRecordNow objects old n r → r ≡ found
was_read objects old mid n found r reads over alone is =
    by_states (objects n) (record_at old n) (record_at mid n) found r (reads n) over (λ s there. (alone s).0 there) is

pub same_list : (objects : ℕ → Option Object) (old new : DatasetChanges) (n : ℕ) (found written : DatasetRecord) → ((r : DatasetRecord) → HasRecordNow objects old n r → r ≡ found)
    → HasKnown new n written → written.dead_list ≡ found.dead_list → HasSameList objects old new n
same_list objects old new n found written was known same r s before after =
    ap (λ (t : DatasetRecord). t.dead_list) (one_record_now objects new n s written after (known_now objects new n written known))
    ∙ same ∙ sym (ap (λ (t : DatasetRecord). t.dead_list) (was r before))

known_kept : (old new : DatasetChanges) (n : ℕ) (r : DatasetRecord) → IsAtMostRead (record_at old n) (record_at new n) → HasKnown old n r → HasKnown new n r
known_kept old new n r (inl same) known = still_known old new n r same known
known_kept old new n r (inr read) known = absurd (known_there old n r known read.0)

-- one record is read and put again with its dead list
pub keeps_lists : (old mid read put new : DatasetChanges) (n : ℕ) (found written : DatasetRecord) → AreAtMostRead old read → HasKnown mid n found → KeepsRecords mid read
    → HasRecordPut read n (Some (with_record (record_at read n) written)) put → HaveSameRecords put new → written.dead_list ≡ found.dead_list → KeepsDeadLists old new
keeps_lists old mid read put new n found written reads is_known stays puts same list m r known =
    let there : HasKnown read m r = known_kept old read m r (reads m) known in
    elim (cases_eq m n) [
      | inl e ↦
          let first : HasKnown read n found = still_known mid read n found (stays n (known_there mid n found is_known)) is_known in
          let again : HasKnown new n written = still_known put new n written (same n) (put_known read put n written puts) in (
            written,
            subst (λ (k : ℕ). HasKnown new k written) (sym e) again,
            list ∙ ap (λ (t : DatasetRecord). t.dead_list) (known_one read n found r first (subst (λ (k : ℕ). HasKnown read k r) e there)),
          )
      | inr ne ↦ (r, still_known put new m r (same m) (still_known read put m r (puts.1 m ne) there), refl)
    ]
