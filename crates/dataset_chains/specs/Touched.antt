-- Which records and dead lists a group's change of a chain touches.
use Rattle.std.specs.Prelude.{ℕ, ◌≡◌, ◌≢◌, ◌⊎◌, Option, Some, None}
use Rattle.dataset_changes.specs.Over.{HasRecordNow}
use Rattle.dataset_changes.specs.States.{AreOfOneSet, list_at, record_at}
use Rattle.dataset_changes.specs.declared.changes.DatasetChanges.{DatasetChanges}
use Rattle.dataset_changes.specs.declared.states.RecordState.{RecordState}
use Rattle.dataset_changes.specs.declared.states.RecordState.TheVariants as records
use Rattle.meta_objset.specs.declared.record.DatasetRecord.{DatasetRecord}
use Rattle.objset.specs.Objects.{Object}
use Rattle.dataset_chains.specs.Refused.{HasKnown}

-- the record is what it was, or was read
abbrev pub IsAtMostRead : Option RecordState → Option RecordState → Type 0
IsAtMostRead old new = (new ≡ old) ⊎ ((old ≡ None) × ((r : DatasetRecord) × (new ≡ Some (records.Read r))))

-- and so are all
abbrev pub AreAtMostRead : DatasetChanges → DatasetChanges → Type 0
AreAtMostRead old new = (number : ℕ) → IsAtMostRead (record_at old number) (record_at new number)

-- but for the records and dead lists of some numbers all are what they were, or were read
pub record TouchesOnly (old new : DatasetChanges) (OfRecord OfList : ℕ → Type 0) : Type 0 where
  pub records : (number : ℕ) → IsAtMostRead (record_at old number) (record_at new number) ⊎ OfRecord number
  pub lists : (number : ℕ) → (list_at new number ≡ list_at old number) ⊎ OfList number

-- each record that is known names the dead list that it did
abbrev pub KeepsDeadLists : DatasetChanges → DatasetChanges → Type 0
KeepsDeadLists old new = (number : ℕ) (r : DatasetRecord) → HasKnown old number r
    → (s : DatasetRecord) × HasKnown new number s × (s.dead_list ≡ r.dead_list)

-- so does the one at a number, whether or not it was read before
abbrev pub HasSameList : (ℕ → Option Object) → DatasetChanges → DatasetChanges → ℕ → Type 0
HasSameList objects old new number = (r s : DatasetRecord) → HasRecordNow objects old number r
    → HasRecordNow objects new number s → s.dead_list ≡ r.dead_list

-- For a snapshot of a head the records of three datasets are touched: the snapshot's is made, the head's is changed, and so is that of the
-- snapshot that the head's record, as it came so far, names as the one before, if there is one. One dead list is made.
pub record IsSnapshotTouched (old new : DatasetChanges) (head dataset dead_list : ℕ) : Type 0 where
  pub far : DatasetChanges
  pub one_set : AreOfOneSet old far
  pub r : DatasetRecord
  pub known : HasKnown far head r
  pub touched : TouchesOnly old new
      (λ number. (number ≡ dataset) ⊎ ((number ≡ head) ⊎ ((number ≡ r.previous) × (number ≢ 0)))) (λ list. list ≡ dead_list)

-- For a clone of a snapshot the records of two datasets are touched: the clone's is made, and the snapshot's is changed. One dead list is made.
abbrev pub IsCloneTouched : DatasetChanges → DatasetChanges → ℕ → ℕ → ℕ → Type 0
IsCloneTouched old new snapshot dataset dead_list =
    TouchesOnly old new (λ number. (number ≡ dataset) ⊎ (number ≡ snapshot)) (λ list. list ≡ dead_list)
