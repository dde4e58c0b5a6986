-- The changes of the objects of the set that a group's records and dead lists come to.
use Rattle.std.specs.Prelude.{ℕ, ◌≡◌, ◌≢◌, ◌<◌, ◌⊎◌, List, Option, Some, None, All, AllPairs}
use Rattle.block_pointer.specs.declared.block.Block.{Block}
use Rattle.dead_list_objects.specs.Lists.{HasDeadList}
use Rattle.meta_objset.specs.Datasets.{HasRecord}
use Rattle.meta_objset.specs.declared.record.DatasetRecord.{DatasetRecord}
use Rattle.objset.specs.Changes.{IsGoodChange, MayChange, changed}
use Rattle.objset.specs.Objects.{Object}
use Rattle.objset.specs.declared.changes.ObjectChange.{ObjectChange}
use Rattle.dataset_changes.specs.Over.{AreOver, HasListNow, HasRecordNow}
use Rattle.dataset_changes.specs.States.{IsNumber, list_at, record_at}
use Rattle.dataset_changes.specs.declared.changes.DatasetChanges.{DatasetChanges}
use Rattle.dataset_changes.specs.declared.states.ListState.TheVariants as lists
use Rattle.dataset_changes.specs.declared.states.RecordState.{RecordState}
use Rattle.dataset_changes.specs.declared.states.RecordState.TheVariants as records

-- one number has both a record and a dead list that were read or changed
abbrev pub AreMixed : DatasetChanges → Type 0
AreMixed changes = (number : ℕ) × (record_at changes number ≢ None) × (list_at changes number ≢ None)

-- a record or a dead list that is gone had this number
abbrev pub IsGone : DatasetChanges → ℕ → Type 0
IsGone changes number =
    (record_at changes number ≡ Some records.Gone) ⊎ (list_at changes number ≡ Some lists.Gone)

-- Over objects of which they were read the changes give each record and each dead list its object, and leave all other objects as they are.
pub record Gives (changes : DatasetChanges) (made : List ObjectChange) (objects : ℕ → Option Object) : Type 0 where
  pub may : All (λ change. MayChange change.change (objects change.number)) made
  pub records : (number : ℕ) (r : DatasetRecord) → HasRecordNow objects changes number r
      → HasRecord (changed made objects number) r
  pub lists : (number : ℕ) (list : List Block) → HasListNow objects changes number list
      → HasDeadList (changed made objects number) list
  pub gone : (number : ℕ) → IsGone changes number → changed made objects number ≡ None
  pub others : (number : ℕ) → record_at changes number ≡ None → list_at changes number ≡ None
      → changed made objects number ≡ objects number

-- more became of it than that it was read
abbrev pub IsRecordChanged : Option RecordState → Type 0
IsRecordChanged state = (state ≢ None) × ((r : DatasetRecord) → state ≢ Some (records.Read r))

-- these are in the order of their objects' numbers, and come to that
pub record AreChangesOf (changes : DatasetChanges) (made : List ObjectChange) : Type 0 where
  pub order : AllPairs (λ change later. change.number < later.number) made
  pub numbers : All (λ change. IsNumber change.number) made
  pub good : All (λ change. IsGoodChange change.change) made
  pub touched : All (λ change. IsRecordChanged (record_at changes change.number) ⊎ (list_at changes change.number ≢ None)) made
  pub over : (objects : ℕ → Option Object) → AreOver objects changes → Gives changes made objects
