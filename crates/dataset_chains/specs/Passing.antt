-- What comes after a snapshot in its chain gives way to something else.
use Rattle.std.specs.Prelude.{ℕ, ◌≡◌, ◌≢◌, ◌==◌, ◌↔◌, if◌then◌else◌, Option, None}
use Rattle.dataset_changes.specs.Over.{HasRecordNow}
use Rattle.dataset_changes.specs.States.{record_at}
use Rattle.dataset_changes.specs.declared.changes.DatasetChanges.{DatasetChanges}
use Rattle.meta_objset.specs.declared.record.DatasetRecord.{DatasetRecord}
use Rattle.objset.specs.Objects.{Object}

-- what was read or put before is what it was
abbrev pub KeepsRecords : DatasetChanges → DatasetChanges → Type 0
KeepsRecords old new = (number : ℕ) → record_at old number ≢ None → record_at new number ≡ record_at old number

-- the record, once something at a number stands where something else came next
abbrev pub passed_to : DatasetRecord → ℕ → ℕ → DatasetRecord
passed_to r from to = record r { next = if r.next == from then to else r.next }

-- the record at a number is this one now, and no other
abbrev pub IsRecordAlone : (ℕ → Option Object) → DatasetChanges → ℕ → DatasetRecord → Type 0
IsRecordAlone objects changes number r = (s : DatasetRecord) → HasRecordNow objects changes number s ↔ (s ≡ r)

-- the snapshot at a number, if there is one, has what comes after it so, and no other record is another
pub record IsNextPassed (objects : ℕ → Option Object) (old new : DatasetChanges) (before from to : ℕ) : Type 0 where
  pub others : (number : ℕ) → (number ≡ before → before ≡ 0) → record_at new number ≡ record_at old number
  pub r : before ≢ 0 → DatasetRecord
  pub was : (there : before ≢ 0) → IsRecordAlone objects old before (r there)
  pub is : (there : before ≢ 0) → IsRecordAlone objects new before (passed_to (r there) from to)
