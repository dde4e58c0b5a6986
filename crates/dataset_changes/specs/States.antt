-- What a group makes of the records and dead lists of a meta object set, by the numbers of their objects.
pub use Rattle.dataset_changes.specs.Numbers.{IsNumber}
use Rattle.std.specs.Prelude.{ℕ, ◌≡◌, ◌≢◌, ◌⊎◌, Bool, true, false, List, Option, Some, None}
use Rattle.std.specs.BTreeMap.{get}
use Rattle.std.specs.Ordering.{nat_cmp}
use Rattle.block_pointer.specs.declared.block.Block.{Block}
use Rattle.dnode.specs.declared.object_set.ObjectSet.{ObjectSet}
use Rattle.dataset_changes.specs.declared.changes.DatasetChanges.{DatasetChanges}
use Rattle.dataset_changes.specs.declared.states.ListState.{ListState}
use Rattle.dataset_changes.specs.declared.states.ListState.TheVariants as lists
use Rattle.dataset_changes.specs.declared.states.RecordState.{RecordState}
use Rattle.dataset_changes.specs.declared.states.RecordState.TheVariants as records
use Rattle.meta_objset.specs.declared.record.DatasetRecord.{DatasetRecord}

-- the set of objects as it is committed
abbrev pub set_of : DatasetChanges → ObjectSet
set_of changes = changes.set

-- the group that the set's blocks were born in or before
abbrev pub birth_of : DatasetChanges → ℕ
birth_of changes = changes.birth

-- what became of the record at a number; None where it was neither read nor changed
abbrev pub record_at : DatasetChanges → ℕ → Option RecordState
record_at changes number = get nat_cmp changes.records number

-- what became of the dead list at a number; None where it was neither read nor changed
abbrev pub list_at : DatasetChanges → ℕ → Option ListState
list_at changes number = get nat_cmp changes.lists number

-- nothing was read or changed yet
abbrev pub AreUntouched : DatasetChanges → Type 0
AreUntouched changes = (number : ℕ) → (record_at changes number ≡ None) × (list_at changes number ≡ None)

-- both are changes of the same object set, born by the same group
abbrev pub AreOfOneSet : DatasetChanges → DatasetChanges → Type 0
AreOfOneSet old new = (set_of new ≡ set_of old) × (birth_of new ≡ birth_of old)

-- the same became of each record
abbrev pub HaveSameRecords : DatasetChanges → DatasetChanges → Type 0
HaveSameRecords old new = (number : ℕ) → record_at new number ≡ record_at old number

-- the same became of each dead list
abbrev pub HaveSameLists : DatasetChanges → DatasetChanges → Type 0
HaveSameLists old new = (number : ℕ) → list_at new number ≡ list_at old number

-- this became of the record at a number, and of others what had
abbrev pub HasRecordPut : DatasetChanges → ℕ → Option RecordState → DatasetChanges → Type 0
HasRecordPut old number state new =
    (record_at new number ≡ state) × ((other : ℕ) → other ≢ number → record_at new other ≡ record_at old other)

-- this became of the dead list at a number, and of others what had
abbrev pub HasListPut : DatasetChanges → ℕ → Option ListState → DatasetChanges → Type 0
HasListPut old number state new =
    (list_at new number ≡ state) × ((other : ℕ) → other ≢ number → list_at new other ≡ list_at old other)

-- what the record at a number is once another is put there: one that is made still is
abbrev pub with_record : Option RecordState → DatasetRecord → RecordState
with_record (Some (records.Made one)) r = records.Made r
with_record state r = records.Changed r

-- and once it was read
abbrev pub once_read : Option RecordState → DatasetRecord → RecordState
once_read (Some state) r = state
once_read None r = records.Read r

-- and once its object goes: one that was made is none
abbrev pub without_record : Option RecordState → Option RecordState
without_record (Some (records.Made one)) = None
without_record state = Some records.Gone

-- its object is made
abbrev pub is_made_record : Option RecordState → Bool
is_made_record (Some (records.Made one)) = true
is_made_record state = false

-- the record was read or made, and is this one
abbrev pub IsKnownAs : Option RecordState → DatasetRecord → Type 0
IsKnownAs state r = (state ≡ Some (records.Read r)) ⊎ ((state ≡ Some (records.Changed r)) ⊎ (state ≡ Some (records.Made r)))

-- the same of dead lists
abbrev pub with_list : Option ListState → List Block → ListState
with_list (Some (lists.Made one)) list = lists.Made list
with_list state list = lists.Whole list

-- what becomes of a dead list once its object goes: None of one that was made, else Gone
abbrev pub without_list : Option ListState → Option ListState
without_list (Some (lists.Made one)) = None
without_list state = Some lists.Gone

-- the dead list's object is made
abbrev pub is_made_list : Option ListState → Bool
is_made_list (Some (lists.Made one)) = true
is_made_list state = false
