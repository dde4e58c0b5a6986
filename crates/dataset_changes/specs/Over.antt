-- What the records and dead lists are, as the group leaves them so far, over the objects of the set.
use Rattle.std.specs.Prelude.{ℕ, ◌≡◌, ◌++◌, List, Option, Some, None, IsPermutation}
use Rattle.block_pointer.specs.declared.block.Block.{Block}
use Rattle.dead_list.specs.Rows.{SpellsList}
use Rattle.dead_list_objects.specs.Lists.{dead_list_kind, HasDeadList}
use Rattle.meta_objset.specs.Datasets.{HasRecord, IsRecordObject}
use Rattle.meta_objset.specs.declared.record.DatasetRecord.{DatasetRecord}
use Rattle.object_table.specs.Ends.{IsEndOf}
use Rattle.object_table.specs.Tables.{IsOfKind}
use Rattle.objset.specs.Objects.{Object}
use Rattle.dataset_changes.specs.States.{record_at, list_at}
use Rattle.dataset_changes.specs.declared.changes.DatasetChanges.{DatasetChanges}
use Rattle.dataset_changes.specs.declared.states.ListState.{ListState}
use Rattle.dataset_changes.specs.declared.states.ListState.TheVariants as lists
use Rattle.dataset_changes.specs.declared.states.RecordState.{RecordState}
use Rattle.dataset_changes.specs.declared.states.RecordState.TheVariants as records

-- an object that may have a record is there, or one that may have a dead list
abbrev pub IsForRecord : Option Object → Type 0
IsForRecord object = (there : Object) × (object ≡ Some there) × IsRecordObject there

-- the object is there, and is one that may have a dead list
abbrev pub IsForList : Option Object → Type 0
IsForList object = (there : Object) × (object ≡ Some there) × IsOfKind dead_list_kind there

-- A record was read of its object; it was changed, and its object may have one; it is made where no object is; or its object, which
-- may have one, is gone.
abbrev pub IsRecordOver : Option Object → Option RecordState → Type 0
IsRecordOver object None = Unit {0}
IsRecordOver object (Some (records.Read r)) = HasRecord object r
IsRecordOver object (Some (records.Changed r)) = IsForRecord object
IsRecordOver object (Some (records.Made r)) = object ≡ None
IsRecordOver object (Some records.Gone) = IsForRecord object

-- Blocks come behind the rows of which the end was read; the list was read and is perhaps another now; it is made where no object is; or
-- its object is gone.
abbrev pub IsListOver : Option Object → Option ListState → Type 0
IsListOver object None = Unit {0}
IsListOver object (Some (lists.Added end blocks)) =
    (rows : List ℕ) × (old : List Block) × IsEndOf dead_list_kind object rows end × SpellsList rows old
IsListOver object (Some (lists.Whole list)) = IsForList object
IsListOver object (Some (lists.Made list)) = object ≡ None
IsListOver object (Some lists.Gone) = IsForList object

-- all that was read and is changed is of these objects
pub record AreOver (objects : ℕ → Option Object) (changes : DatasetChanges) : Type 0 where
  pub records : (number : ℕ) → IsRecordOver (objects number) (record_at changes number)
  pub lists : (number : ℕ) → IsListOver (objects number) (list_at changes number)

-- the record is that of the object, or what became of it
abbrev pub IsRecordNow : Option Object → Option RecordState → DatasetRecord → Type 0
IsRecordNow object None r = HasRecord object r
IsRecordNow object (Some (records.Read one)) r = r ≡ one
IsRecordNow object (Some (records.Changed one)) r = r ≡ one
IsRecordNow object (Some (records.Made one)) r = r ≡ one
IsRecordNow object (Some records.Gone) r = ⊥

-- the blocks, in some order, are the list of the object, or what became of it
abbrev pub IsListNow : Option Object → Option ListState → List Block → Type 0
IsListNow object None list = HasDeadList object list
IsListNow object (Some (lists.Added end blocks)) list =
    (rows : List ℕ) × (old : List Block) × IsEndOf dead_list_kind object rows end × SpellsList rows old
    × IsPermutation (old ++ blocks) list
IsListNow object (Some (lists.Whole one)) list = IsPermutation one list
IsListNow object (Some (lists.Made one)) list = IsPermutation one list
IsListNow object (Some lists.Gone) list = ⊥

-- the object has this record now, as the group leaves it so far
abbrev pub HasRecordNow : (ℕ → Option Object) → DatasetChanges → ℕ → DatasetRecord → Type 0
HasRecordNow objects changes number r = IsRecordNow (objects number) (record_at changes number) r

-- the object has this dead list now, as the group leaves it so far; the blocks' order doesn't matter
abbrev pub HasListNow : (ℕ → Option Object) → DatasetChanges → ℕ → List Block → Type 0
HasListNow objects changes number list = IsListNow (objects number) (list_at changes number) list
