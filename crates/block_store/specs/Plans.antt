-- Plans: blocks that are to be written.
use Rattle.std.specs.Prelude.{ℕ, ◌≡◌, ◌≤◌, ◌⊎◌, Some, None, false, List, ◌∷◌, ◌++◌, length, slice_get, Contains, All}
use Rattle.model_disk.specs.Joint.{content}
use Rattle.block_pointer.specs.declared.block.Block.{Block}
use Rattle.block_pointer.specs.declared.dva.Dva.{Dva}
use Rattle.raidz_io.specs.declared.vdev.Extent.{Extent}
use Rattle.raidz_io.specs.Writes.{ColumnWrite}
use Rattle.raidz_io.specs.Stands.{WouldStore, AreColumnWrites, IsDone}
use Rattle.block_store.specs.Accounts.{AreAccounted}
use Rattle.block_store.specs.Beside.{AreFreeBeside, AreInFreePlaces}
use Rattle.block_store.specs.Blocks.{Contents, Extends, Adds}
use Rattle.block_store.specs.Places.{filled, IsCopy, IsExtentAt}
use Rattle.block_store.specs.Places.{planned as planned_marks}
use Rattle.block_store.specs.Store.{Store, outs, is_out, ArePlaced, Holds, Spares, SparesBut}
use Rattle.block_store.specs.Uses.{CopiesLieOn, IsInUse}

-- the writes would store a copy of the block, and each of them is done, is due, or is to a disk that is out
pub record IsOnTheWay (store : Store) (writes : List ColumnWrite) (extent : Extent) (bytes : List ℕ) : Type 0 where
  pub would_store : WouldStore writes extent bytes
  pub columns : AreColumnWrites extent writes
  pub each : (write : ColumnWrite) → Contains writes write → ¬ Contains (outs store) write.disk
      → IsDone (content store.disks) write ⊎ Contains store.due write

-- the write is one of those for a copy of a block that the plan adds
pub record IsDueFor (store : Store) (stored planned : Contents) (writes_of : Block → ℕ → List ColumnWrite) (write : ColumnWrite) : Type 0 where
  pub block : Block
  pub bytes : List ℕ
  pub i : ℕ
  pub extent : Extent
  pub is_planned : planned block ≡ Some bytes
  pub is_new : stored block ≡ None
  pub is_copy : IsCopy store.spaces block i extent
  pub is_of_copy : Contains (writes_of block i) write

-- the writes are those for copies at these places, but for the ones to disks that are out
pub record AreWritesAt (store : Store) (sectors : ℕ) (bytes : List ℕ) (places : List Dva) (writes : List ColumnWrite) : Type 0 where
  pub copies : List (List ColumnWrite)
  pub count : length copies ≡ length places
  pub extents : (i : ℕ) (place : Dva) → slice_get places i ≡ Some place → (extent : Extent) × IsExtentAt store.spaces sectors place extent
  pub would_store : (i : ℕ) (place : Dva) (copy : List ColumnWrite) (extent : Extent) → slice_get places i ≡ Some place → slice_get copies i ≡ Some copy
      → IsExtentAt store.spaces sectors place extent → WouldStore copy extent bytes × AreColumnWrites extent copy
  pub each : (i : ℕ) (copy : List ColumnWrite) (write : ColumnWrite) → slice_get copies i ≡ Some copy → Contains copy write
      → ¬ Contains (outs store) write.disk → Contains writes write
  pub only : (write : ColumnWrite) → Contains writes write → (i : ℕ) × (copy : List ColumnWrite) × (slice_get copies i ≡ Some copy) × Contains copy write
  pub in_use : All (λ write. is_out store.out write.disk ≡ false) writes

-- Some blocks are stored, and a plan adds others, born in its group: they are placed too, and once what is due is written all are stored.
pub record Plans (store : Store) (stored planned : Contents) : Type 0 where
  pub held : Holds store stored
  pub stored_placed : ArePlaced store.spaces filled stored
  pub kept : Extends stored planned
  pub placed : ArePlaced store.spaces planned_marks planned
  pub born : (block : Block) (bytes : List ℕ) → planned block ≡ Some bytes → stored block ≡ None → store.spans.group ≤ block.birth
  -- each sector of what is new is in use
  pub in_use : (block : Block) (bytes : List ℕ) → planned block ≡ Some bytes → stored block ≡ None → CopiesLieOn IsInUse store.spaces planned_marks block
  -- each sector that the plan takes into use is in a block that it adds, unless a block took places and was not planned
  pub accounted : store.stray ≡ false → AreAccounted store.spaces stored planned
  -- what is new lies in places that are free without the plan, and so does what it may take
  pub fresh : AreInFreePlaces store.spaces stored planned
  pub beside : AreFreeBeside store.spaces
  -- the writes of each copy that is new
  pub writes_of : Block → ℕ → List ColumnWrite
  pub on_the_way : (block : Block) (bytes : List ℕ) (i : ℕ) (extent : Extent) → planned block ≡ Some bytes → stored block ≡ None
      → IsCopy store.spaces block i extent → IsOnTheWay store (writes_of block i) extent bytes
  pub due : (write : ColumnWrite) → Contains store.due write → IsDueFor store stored planned writes_of write

-- each plan of the store is one still
abbrev pub KeepsPlans : Store → Store → Type 0
KeepsPlans old new = (stored planned : Contents) → Plans old stored planned → Plans new stored planned

-- the block is planned too, with these bytes, and all others stay
abbrev pub PlansToo : Store → Store → Block → List ℕ → Type 0
PlansToo old new block bytes = (stored planned : Contents) → Plans old stored planned
    → (later : Contents) × Plans new stored later × Adds planned later block bytes

-- more writes are due, behind those that were, and none is to a disk that is out
abbrev pub MoreIsDue : Store → Store → Type 0
MoreIsDue old new =
    (added : List ColumnWrite) × (new.due ≡ old.due ++ added) × All (λ write. is_out old.out write.disk ≡ false) added

-- Each copy of a stored block that stood, but for columns on some disks, does so still. Of a planned one so does each but for the column
-- that the write is of.
abbrev pub SparesAllBut : Store → Store → Type 0
SparesAllBut old new = (write : ColumnWrite) (stored planned : Contents) → old.due ≡ write ∷ new.due → Plans old stored planned
    → Spares stored old new × SparesBut write planned old new
