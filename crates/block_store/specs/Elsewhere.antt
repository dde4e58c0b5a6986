-- The bytes of disks that are for blocks, and those that are not.
use Rattle.std.specs.Prelude.{ℕ, ◌≡◌, ◌+◌, ◌<◌, ◌≤◌, Some, List, slice_get}
use Rattle.model_disk.specs.Joint.{content}
use Rattle.block_pointer.specs.declared.dva.Dva.{Dva}
use Rattle.raidz_io.specs.declared.vdev.Extent.{Extent}
use Rattle.raidz_io.specs.Elsewhere.{IsOfExtent}
use Rattle.raidz_io.specs.Places.{offset_of_sector}
use Rattle.raidz_io.specs.Reads.{OnlyReads}
use Rattle.block_store.specs.Blocks.{Contents}
use Rattle.block_store.specs.Spaces.{VdevSpace}
use Rattle.block_store.specs.Places.{IsPlaceIn, IsExtentAt}
use Rattle.block_store.specs.Plans.{KeepsPlans}
use Rattle.block_store.specs.Store.{Store, Keeps, KeepsStored, Spares}

-- Byte i of the disk is in one of the sectors of a vdev that hold blocks. Labels and uberblocks stand before these sectors and
-- behind them.
pub record IsForBlocks (spaces : List VdevSpace) (disk i : ℕ) : Type 0 where
  pub v : ℕ
  pub space : VdevSpace
  pub found : slice_get spaces v ≡ Some space
  pub first : space.shape.vdev.first ≤ disk
  pub last : disk < space.shape.vdev.first + space.shape.vdev.geometry.children
  pub from : offset_of_sector 0 ≤ i
  pub before : i < offset_of_sector space.shape.child_sectors

-- none of so many bytes from there on is one of them
abbrev pub IsAside : List VdevSpace → ℕ → ℕ → ℕ → Type 0
IsAside spaces disk offset len = (i : ℕ) → offset ≤ i → i < offset + len → ¬ IsForBlocks spaces disk i

-- an extent has no other bytes
abbrev pub BlocksLieInSectors : Type 0
BlocksLieInSectors =
    (spaces : List VdevSpace) (sectors : ℕ) (place : Dva) (extent : Extent) (disk i : ℕ) → IsPlaceIn spaces sectors place
    → IsExtentAt spaces sectors place extent → IsOfExtent extent disk i → IsForBlocks spaces disk i

-- reads spare all that stood
abbrev pub ReadsSpare : Type 0
ReadsSpare = (old new : Store) (known : Contents) → OnlyReads old.disks new.disks → Spares known old new

-- what changes none of them, such as a write of a label, keeps what the store holds and plans
abbrev pub WritesElsewhereKeep : Type 0
WritesElsewhereKeep =
    (old new : Store) → new.spaces ≡ old.spaces → new.due ≡ old.due → new.out ≡ old.out → new.spans ≡ old.spans → new.stray ≡ old.stray
    → ((disk i : ℕ) → IsForBlocks old.spaces disk i → content new.disks disk i ≡ content old.disks disk i)
    → Keeps old new × KeepsStored old new × KeepsPlans old new
