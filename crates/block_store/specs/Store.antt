-- A store of blocks, and what it holds.
use Rattle.std.specs.Prelude.{ℕ, ◌≡◌, ◌⊎◌, ◌++◌, nat_le, nat_lt, Option, Some, Bool, true, if◌then◌else◌, List, filter, slice_get, slice_index, Contains}
use Rattle.model_disk.specs.Joint.{Disks, content}
use Rattle.block_pointer.specs.declared.block.Block.{Block}
use Rattle.block_pointer.specs.declared.dva.Dva.{Dva}
use Rattle.block_pointer.specs.Copies.{dvas}
use Rattle.raidz_io.specs.declared.vdev.Extent.{Extent}
use Rattle.raidz_io.specs.Writes.{ColumnWrite}
use Rattle.raidz_io.specs.Stands.{ExtentStands, IsColumnWrite}
use Rattle.disk_set.specs.declared.stale.GroupSpan.{GroupSpan}
pub use Rattle.disk_set.specs.Outs.{Spans, is_in, is_out, is_stale, IsInUseToo, IsOutToo, MissedThese, outs_from, stale_from, in_group, spans_without}
use Rattle.block_store.specs.Spaces.{VdevSpace}
use Rattle.block_store.specs.Blocks.{Contents, IsWrittenAs}
use Rattle.block_store.specs.Places.{Marks, filled, IsLaidOut, IsTaken, IsCopy, ArePlacesIn, ArePlacesApart}

-- what a `BlockStore` shows
pub record Store : Type 0 where
  pub disks : Disks
  pub spaces : List VdevSpace
  pub out : List Bool  -- for each disk, whether it is out
  pub spans : Spans
  pub due : List ColumnWrite  -- the writes of the plan that are to be made, in order
  pub stray : Bool  -- whether a block may have taken places and then not have been planned

-- the numbers of the disks that are out, in ascending order
abbrev pub outs : Store → List ℕ
outs store = outs_from 0 store.out

-- the disks that missed the group in which a block was born
abbrev pub missed : Store → ℕ → List ℕ
missed store birth = stale_from 0 store.spans.stale birth

-- the disks that are lost for a block that was born in that group: they are out since then, or since an earlier group, or missed it
abbrev pub lost : Store → ℕ → List ℕ
lost store birth = filter (λ disk. nat_le (slice_index store.spans.since disk) birth) (outs store) ++ missed store birth

-- a block of the plan was born then: in the plan's group, or else the plan's group is an earlier one
abbrev pub reaching : Spans → ℕ → Spans
reaching spans birth = if nat_lt birth spans.group then in_group spans birth else spans

-- that disk may lack blocks from the plan's group on, if it was not out before; of the others nothing changes
abbrev pub GoesOut : Store → ℕ → Store → Type 0
GoesOut old disk new =
    new.spans ≡ spans_without old.out old.spans disk

-- of these blocks that disk lacks none but those that were born in these groups
abbrev pub LacksOnly : Store → ℕ → Option GroupSpan → Contents → Type 0
LacksOnly store disk missed stored =
    (block : Block) (bytes : List ℕ) → stored block ≡ Some bytes → Contains (lost store block.birth) disk → is_in missed block.birth ≡ true

-- Each block that is known is what its pointer tells. Its copies lie apart, in places of their region that are in use.
pub record ArePlaced (spaces : List VdevSpace) (marks : Marks) (contents : Contents) : Type 0 where
  pub blocks : (block : Block) (bytes : List ℕ) → contents block ≡ Some bytes → IsWrittenAs block bytes
  pub places : (block : Block) (bytes : List ℕ) (i : ℕ) (place : Dva) → contents block ≡ Some bytes → slice_get (dvas block.copies) i ≡ Some place
      → IsTaken spaces marks block.property.sectors place
  pub regions : (block : Block) (bytes : List ℕ) → contents block ≡ Some bytes → ArePlacesIn spaces block.property.sectors (dvas block.copies)
  pub apart : (block other : Block) (bytes others : List ℕ) (i k : ℕ) (place behind : Dva) → contents block ≡ Some bytes → contents other ≡ Some others
      → slice_get (dvas block.copies) i ≡ Some place → slice_get (dvas other.copies) k ≡ Some behind
      → ((block ≡ other) × (i ≡ k)) ⊎ ArePlacesApart place behind

-- The blocks may be read: each is what its pointer tells, its copies lie in places of the pool, and each column of each copy, the
-- parity too, stands at its place on every disk that isn't lost for its birth: on those that are out too, where they went out later.
pub record Holds (store : Store) (stored : Contents) : Type 0 where
  pub blocks : (block : Block) (bytes : List ℕ) → stored block ≡ Some bytes → IsWrittenAs block bytes
  pub places : (block : Block) (bytes : List ℕ) → stored block ≡ Some bytes → ArePlacesIn store.spaces block.property.sectors (dvas block.copies)
  pub stand : (block : Block) (bytes : List ℕ) (i : ℕ) (extent : Extent) → stored block ≡ Some bytes → IsCopy store.spaces block i extent
      → ExtentStands (content store.disks) (lost store block.birth) extent bytes

-- And no plan may overwrite them: their places are in use, and lie apart.
pub record Stores (store : Store) (stored : Contents) : Type 0 where
  pub held : Holds store stored
  pub placed : ArePlaced store.spaces filled stored

-- each map of blocks that the store held, it still holds
abbrev pub Keeps : Store → Store → Type 0
Keeps old new = (stored : Contents) → Holds old stored → Holds new stored

-- each that it stored, it still stores
abbrev pub KeepsStored : Store → Store → Type 0
KeepsStored old new = (stored : Contents) → Stores old stored → Stores new stored

-- Each copy of these blocks that stood, but for columns on some disks, does so still. So each column that stood stands.
abbrev pub Spares : Contents → Store → Store → Type 0
Spares known old new =
    (block : Block) (bytes : List ℕ) (i : ℕ) (extent : Extent) (absent : List ℕ) → known block ≡ Some bytes → IsCopy old.spaces block i extent
    → ExtentStands (content old.disks) absent extent bytes → ExtentStands (content new.disks) absent extent bytes

-- the same, but for the column that the write is of
abbrev pub SparesBut : ColumnWrite → Contents → Store → Store → Type 0
SparesBut write known old new =
    (block : Block) (bytes : List ℕ) (i : ℕ) (extent : Extent) (absent : List ℕ) → known block ≡ Some bytes → IsCopy old.spaces block i extent
    → ((k : ℕ) → IsColumnWrite extent k write → Contains absent write.disk)
    → ExtentStands (content old.disks) absent extent bytes → ExtentStands (content new.disks) absent extent bytes

-- the vdevs are on the disks
pub record IsStore (store : Store) : Type 0 where
  pub laid_out : IsLaidOut store.disks.starts store.spaces
