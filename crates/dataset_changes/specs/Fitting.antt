-- Records and lists that may stand on disk.
use Rattle.std.specs.Prelude.{ℕ, ◌≡◌, List, [], Option, Some, None, All, IfSome}
use Rattle.std.specs.BTreeMap.{BTreeMap, get}
use Rattle.std.specs.Coded.{Unit-prop}
use Rattle.std.specs.Ordering.{nat_cmp}
use Rattle.std.proofs.Props.{props}
use Rattle.block_pointer.specs.declared.block.Block.{Block}
use Rattle.block_pointer.specs.Block.{FitsBlock}
use Rattle.block_pointer.specs.Pointer.{Fits}
use Rattle.block_pointer.specs.declared.pointer.BlockPtr.{BlockPtr}
use Rattle.block_pointer.specs.declared.pointer.BlockPtr.TheVariants as pointers
use Rattle.dnode.specs.Node.{PointsToRoot}
use Rattle.dnode.specs.ObjectSet.{FitsObjectSet}
use Rattle.dnode.specs.declared.node.ObjectNode.{ObjectNode}
use Rattle.dnode.specs.declared.object_set.ObjectSet.{ObjectSet}
use Rattle.meta_objset.specs.declared.record.DatasetKind.{DatasetKind}
use Rattle.meta_objset.specs.declared.record.DatasetKind.TheVariants.{Volume, Snapshot}
use Rattle.meta_objset.specs.declared.record.DatasetRecord.{DatasetRecord}
use Rattle.meta_objset.specs.Record.{FitsRecord, IsNext}
use Rattle.dataset_changes.specs.Numbers.{IsNumber}
use Rattle.dataset_changes.specs.declared.states.ListState.{ListState}
use Rattle.dataset_changes.specs.declared.states.ListState.TheVariants as lists
use Rattle.dataset_changes.specs.declared.states.RecordState.{RecordState}
use Rattle.dataset_changes.specs.declared.states.RecordState.TheVariants as records

-- the record that there is now, if there is one
abbrev pub record_of : RecordState → Option DatasetRecord
record_of (records.Read r) = Some r
record_of (records.Changed r) = Some r
record_of (records.Made r) = Some r
record_of records.Gone = None

-- the blocks that are known of a list
abbrev pub blocks_of : ListState → List Block
blocks_of (lists.Added end blocks) = blocks
blocks_of (lists.Whole list) = list
blocks_of (lists.Made list) = list
blocks_of lists.Gone = []

-- its record may stand on disk, or its blocks
abbrev pub FitsRecordState : RecordState → Type 0
FitsRecordState state = IfSome (record_of state) FitsRecord

-- each block that is known of the list may stand on disk
abbrev pub FitsListState : ListState → Type 0
FitsListState state = All FitsBlock (blocks_of state)

-- each of the records may stand on disk, and has the number of an object behind the tables
pub record FitRecords (entries : BTreeMap ℕ RecordState) : Type 0 where
  pub fit : (number : ℕ) (state : RecordState) → get nat_cmp entries number ≡ Some state → FitsRecordState state
  pub numbers : (number : ℕ) (state : RecordState) → get nat_cmp entries number ≡ Some state → IsNumber number

-- the same of lists
pub record FitLists (entries : BTreeMap ℕ ListState) : Type 0 where
  pub fit : (number : ℕ) (state : ListState) → get nat_cmp entries number ≡ Some state → FitsListState state
  pub numbers : (number : ℕ) (state : ListState) → get nat_cmp entries number ≡ Some state → IsNumber number

-- ---- there is one way at most in which they do

IsNext-prop : (kind : DatasetKind) (next : ℕ) → IsProp (IsNext kind next)
IsNext-prop Volume next = hlevel props
IsNext-prop Snapshot next = Unit-prop

PointsToRoot-prop : (node : ObjectNode) (pointer : BlockPtr) → IsProp (PointsToRoot node pointer)
PointsToRoot-prop node pointers.Hole = Unit-prop
PointsToRoot-prop node (pointers.Block b) = hlevel props

Fits-prop : (pointer : BlockPtr) → IsProp (Fits pointer)
Fits-prop pointers.Hole = Unit-prop
Fits-prop (pointers.Block b) = hlevel props

pub FitsObjectSet-prop : (set : ObjectSet) → IsProp (FitsObjectSet set)
FitsObjectSet-prop set = hlevel (props, PointsToRoot-prop, Fits-prop)

pub FitRecords-prop : (entries : BTreeMap ℕ RecordState) → IsProp (FitRecords entries)
FitRecords-prop entries = hlevel (props, IsNext-prop)

pub FitLists-prop : (entries : BTreeMap ℕ ListState) → IsProp (FitLists entries)
FitLists-prop entries = hlevel props
