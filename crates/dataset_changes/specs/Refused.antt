-- Why a record or a dead list is not read.
use Rattle.std.specs.Prelude.{ℕ, ◌≡◌, ◌⊎◌, [], Some}
use Rattle.block_store.specs.declared.refusal.Refusal.{Refusal}
use Rattle.block_store.specs.declared.refusal.Refusal.TheVariants.{NoMemory, BadPointer}
use Rattle.block_store.specs.Store.{Store}
use Rattle.dead_list_objects.specs.Lists.{IsEndUnread, IsListRefused}
use Rattle.dead_list_objects.specs.declared.refusal.Refusal.{Refusal as ListRefusal}
use Rattle.dead_list_objects.specs.declared.refusal.Refusal.TheVariants as of_lists
use Rattle.meta_objset.specs.Found.{IsRecordRefused}
use Rattle.dataset_changes.specs.States.{birth_of, IsNumber, list_at, record_at, set_of}
use Rattle.dataset_changes.specs.declared.changes.DatasetChanges.{DatasetChanges}
use Rattle.dataset_changes.specs.declared.states.ListState.TheVariants as lists
use Rattle.dataset_changes.specs.declared.states.RecordState.TheVariants as records

-- rows that are no dead list's are no pointer to one
abbrev pub of_list : ListRefusal → Refusal
of_list of_lists.NoMemory = NoMemory
of_list of_lists.BadList = BadPointer
of_list (of_lists.Unread why) = why

-- the number is that of a table or none, or what had it is gone
abbrev pub IsNoRecord : DatasetChanges → ℕ → Type 0
IsNoRecord changes number = (¬ IsNumber number) ⊎ (record_at changes number ≡ Some records.Gone)

-- the number is no object's behind the tables, or the dead list that had it is gone
abbrev pub IsNoList : DatasetChanges → ℕ → Type 0
IsNoList changes number = (¬ IsNumber number) ⊎ (list_at changes number ≡ Some lists.Gone)

-- why the record at a number is not read: memory, its object was refused, or it can't be there
abbrev pub IsRecordUnread : Store → Store → DatasetChanges → ℕ → Refusal → Type 0
IsRecordUnread old new changes number refusal =
    (refusal ≡ NoMemory)
    ⊎ (IsRecordRefused old new [] (set_of changes) (birth_of changes) number refusal
    ⊎ ((refusal ≡ BadPointer) × IsNoRecord changes number))

-- why a dead list is not read, or the end of one
abbrev pub IsListUnread : Store → Store → DatasetChanges → ℕ → Refusal → Type 0
IsListUnread old new changes number refusal =
    (refusal ≡ NoMemory)
    ⊎ (((why : ListRefusal) × (refusal ≡ of_list why)
    × IsListRefused old new [] (set_of changes) (birth_of changes) number why)
    ⊎ ((refusal ≡ BadPointer) × IsNoList changes number))

-- why the end of a dead list is not read: memory, its object was refused, or it can't be there
abbrev pub IsListEndUnread : Store → Store → DatasetChanges → ℕ → Refusal → Type 0
IsListEndUnread old new changes number refusal =
    (refusal ≡ NoMemory)
    ⊎ (((why : ListRefusal) × (refusal ≡ of_list why)
    × IsEndUnread old new [] (set_of changes) (birth_of changes) number why)
    ⊎ ((refusal ≡ BadPointer) × IsNoList changes number))
