-- What was read of the volumes that a group writes to, whether or not the root is whole.
use Rattle.std.specs.Prelude.{ℕ, ◌≡◌, ◌≢◌, ◌⊎◌, ◌↔◌, ◌-◌, ◌^◌, List, [], Contains, All, Any, IsTrue}
use Rattle.block_pointer.specs.declared.block.Block.{Block}
use Rattle.block_store.specs.declared.refusal.Refusal.{Refusal}
use Rattle.block_store.specs.declared.refusal.Refusal.TheVariants.{NoMemory, BadPointer}
use Rattle.block_store.specs.Spaces.{VdevSpace}
use Rattle.block_store.specs.Steps.{OnlyReadsBlocks}
use Rattle.block_store.specs.Store.{Store}
use Rattle.dataset_groups.specs.States.{AreOfOneSet, AreUntouched, IsNumber, set_of}
use Rattle.dataset_groups.specs.DatasetChanges.{DatasetChanges}
use Rattle.dataset_groups.specs.ChainTouched.{TouchesOnly}
use Rattle.dataset_groups.specs.Demands.{IsNameThere}
use Rattle.dataset_groups.specs.Destroys.{AreDestroysRefused, DestroysAll}
use Rattle.dataset_groups.specs.declared.datasets.GroupDatasets.{GroupDatasets}
use Rattle.dataset_groups.specs.declared.writing.WrittenHead.{WrittenHead}
use Rattle.dataset_groups.specs.Writing.{numbers_of}
use Rattle.dnode.specs.declared.object_set.ObjectSet.{ObjectSet}
use Rattle.dnode_tree.specs.declared.writes.BlockWrite.{BlockWrite}
use Rattle.meta_objset.specs.declared.directory.DirectoryRow.{DirectoryRow}
use Rattle.meta_objset.specs.declared.record.DatasetRecord.{DatasetRecord}
use Rattle.meta_objset.specs.Found.{IsRecordFound, IsRecordRefused}
use Rattle.meta_objset.specs.Names.{IsNamed}
use Rattle.pool_model.specs.declared.item.Write.{Write}
use Rattle.volume.specs.declared.volume.VolumeSet.{VolumeSet}
use Rattle.volume.specs.Reading.{IsReadRefused, IsVolumeFound, IsWayRead}
use Rattle.volume.specs.Writing.{AreBlocksOf, HasId, IsChanged, IsCovered, NeedsOldBytes}
use Rattle.dataset_snapshots.specs.declared.groups.Begun.{Begun}
use Rattle.dataset_snapshots.specs.declared.groups.Opened.{Opened}
use Rattle.dataset_snapshots.specs.Finding.{IsMetaFound, IsMetaRefused}
use Rattle.dataset_snapshots.specs.Groups.{HasNumbers, IsOpened, objects_of}
use Rattle.dataset_snapshots.specs.Writing.{HasRow, IsNone, IsVolumeIn, IsWrittenBut}

-- these are the blocks that the writes to the row's volume change; where there are any its set was
-- found, and the way was read to each that no single write covers
pub record AreBlocksFound (spaces : List VdevSpace) (volume : VolumeSet) (birth : ℕ)
    (writes : List Write) (row : DirectoryRow) (blocks : List BlockWrite) : Type 0 where
  pub are : AreBlocksOf volume blocks
  pub name : List ℕ
  pub named : IsNamed row.name name
  pub which : (id : ℕ) → HasId blocks id ↔ IsChanged volume name writes id
  pub judged : blocks ≢ [] → (set : ObjectSet) × IsVolumeFound spaces volume birth set
  pub read : All (λ block. ¬ IsCovered volume name writes block.id
      → IsWayRead spaces volume birth block.id) blocks

-- the volume's set was not read, or one of its blocks whose old bytes the writes need
abbrev pub AreBlocksRefused :
    Store → Store → VolumeSet → ℕ → List Write → DirectoryRow → Refusal → Type 0
AreBlocksRefused old new volume birth writes row refusal =
    (name : List ℕ) × IsNamed row.name name
    × IsReadRefused old new [] volume birth (NeedsOldBytes volume name writes) refusal

-- the row's object has this record, which was read, of this volume
pub record IsHeadFound (spaces : List VdevSpace) (set : ObjectSet) (birth : ℕ)
    (row : DirectoryRow) (volume : VolumeSet) : Type 0 where
  pub r : DatasetRecord
  pub of_record : IsRecordFound spaces set birth row.object r
  pub is : IsVolumeIn volume r

-- the row's volume was read for the writes: its record, and the blocks that they change
pub record IsWrittenFound (spaces : List VdevSpace) (set : ObjectSet) (birth : ℕ)
    (writes : List Write) (row : DirectoryRow) (head : WrittenHead) : Type 0 where
  pub number : head.number ≡ row.object
  pub found : IsHeadFound spaces set birth row head.volume
  pub blocks : AreBlocksFound spaces head.volume birth writes row head.blocks.items

-- the record was read, and then a block that the writes change was not
pub record AreBlocksUnread (old new : Store) (set : ObjectSet) (birth : ℕ) (writes : List Write)
    (row : DirectoryRow) (refusal : Refusal) : Type 0 where
  pub volume : VolumeSet
  pub found : IsHeadFound old.spaces set birth row volume
  pub mid : Store
  pub before : OnlyReadsBlocks old mid []
  pub why : AreBlocksRefused mid new volume birth writes row refusal

-- why the row's volume was not read for the writes
abbrev pub IsWrittenRefused :
    Store → Store → ObjectSet → ℕ → List Write → DirectoryRow → Refusal → Type 0
IsWrittenRefused old new set birth writes row refusal =
    (refusal ≡ NoMemory)
    ⊎ (((refusal ≡ BadPointer) × ¬ IsNumber row.object)
    ⊎ (IsRecordRefused old new [] set birth row.object refusal
    ⊎ AreBlocksUnread old new set birth writes row refusal))

-- the volume of one of the rows, by its object, was read for the writes
abbrev pub IsWrittenOf : List VdevSpace → ObjectSet → ℕ → List Write → List DirectoryRow
    → WrittenHead → Type 0
IsWrittenOf spaces set birth writes rows head =
    (row : DirectoryRow) × HasRow rows head.number row
    × IsWrittenFound spaces set birth writes row head

-- behind other reads, a row of one of these objects was read last, and its volume was refused
pub record IsOneUnread (old new : Store) (set : ObjectSet) (birth : ℕ) (writes : List Write)
    (rows : List DirectoryRow) (objects : List ℕ) (refusal : Refusal) : Type 0 where
  pub row : DirectoryRow
  pub is_one : Contains objects row.object
  pub is_row : Contains rows row
  pub mid : Store
  pub before : OnlyReadsBlocks old mid []
  pub why : IsWrittenRefused mid new set birth writes row refusal

-- the datasets of the set, under these rows: records of them were read, and nothing was made of them
pub record AreBegun (set : ObjectSet) (rows : List DirectoryRow) (begun : GroupDatasets)
    : Type 0 where
  pub fresh : DatasetChanges
  pub untouched : AreUntouched fresh
  pub of_set : set_of fresh ≡ set
  pub one_set : AreOfOneSet fresh begun.changes
  pub read : TouchesOnly fresh begun.changes IsNone IsNone
  pub directory : begun.directory ≡ rows
  pub numbers : HasNumbers set begun

-- by the rows of the directory that is kept: the root was read, and the volumes that the writes
-- name, no others, but for those that are destroyed
pub record IsBegunFound (spaces : List VdevSpace) (birth : ℕ) (root : Block)
    (rows : List DirectoryRow) (destroyed : List (List ℕ)) (writes : List Write) (begun : Begun)
    : Type 0 where
  pub meta : IsMetaFound spaces birth root begun.set
  pub which : (object : ℕ) → Contains (numbers_of begun.written.items) object
      ↔ IsWrittenBut rows destroyed writes object
  pub each : All (IsWrittenOf spaces begun.set root.birth writes rows) begun.written.items
  pub begins : AreBegun begun.set rows begun.datasets

-- by the rows of the directory that is kept: the root was read, and the volumes that the writes
-- name, no others, but for those that are destroyed; and then these datasets were destroyed
pub record IsGroupFound (spaces : List VdevSpace) (birth : ℕ) (root : Block)
    (rows : List DirectoryRow) (destroyed : List (List ℕ)) (writes : List Write) (opened : Opened)
    : Type 0 where
  pub meta : IsMetaFound spaces birth root opened.set
  pub is : IsOpened writes opened
  pub which : (object : ℕ) → Contains (objects_of opened) object
      ↔ IsWrittenBut rows destroyed writes object
  pub each : All (IsWrittenOf spaces opened.set root.birth writes rows) opened.written.items
  pub begun : GroupDatasets
  pub begins : AreBegun opened.set rows begun
  pub destroys : DestroysAll begun opened.datasets destroyed
  pub renamed : IsTrue opened.renamed ↔ Any (IsNameThere rows) destroyed

-- the root was read, and then one of the volumes that the writes name by these rows was not
pub record IsVolumeUnread (old new : Store) (birth : ℕ) (root : Block) (rows : List DirectoryRow)
    (destroyed : List (List ℕ)) (writes : List Write) (refusal : Refusal) : Type 0 where
  pub set : ObjectSet
  pub meta : IsMetaFound old.spaces birth root set
  pub objects : List ℕ
  pub which : (object : ℕ) → Contains objects object ↔ IsWrittenBut rows destroyed writes object
  pub mid : Store
  pub before : OnlyReadsBlocks old mid []
  pub why : IsOneUnread mid new set root.birth writes rows objects refusal

-- of a volume that is destroyed so many blocks are read at most
abbrev pub most_blocks : ℕ
most_blocks = 2 ^ 64 - 1

-- the root and volumes were read, and then one of the datasets was not destroyed
pub record AreNamesKept (old new : Store) (birth : ℕ) (root : Block) (rows : List DirectoryRow)
    (group : ℕ) (destroyed : List (List ℕ)) (refusal : Refusal) : Type 0 where
  pub set : ObjectSet
  pub meta : IsMetaFound old.spaces birth root set
  pub begun : GroupDatasets
  pub begins : AreBegun set rows begun
  pub mid : Store
  pub before : OnlyReadsBlocks old mid []
  pub why : AreDestroysRefused mid new begun group most_blocks destroyed refusal

-- why a group was not opened on the root of the one before, by these rows: the root was not read, or
-- a volume that is written to, or what is to be destroyed was not; nothing of the directory's blocks
-- is read
abbrev pub IsGroupUnread :
    Store → Store → Block → List DirectoryRow → ℕ → List (List ℕ) → List Write → Refusal → Type 0
IsGroupUnread old new root rows group destroyed writes refusal =
    IsMetaRefused old new [] (group - 1) root refusal
    ⊎ (IsVolumeUnread old new (group - 1) root rows destroyed writes refusal
    ⊎ AreNamesKept old new (group - 1) root rows group destroyed refusal)
