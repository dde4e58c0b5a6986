-- Which block each sector that is in use is in.
use Rattle.std.specs.Prelude.{ℕ, ◌≡◌, ◌<◌, ◌⊎◌, Some, None, List, slice_get, IsTrue}
use Rattle.space_map.specs.Sectors.{names}
use Rattle.metaslab.specs.Space.{Space, state, sectors_of}
use Rattle.metaslab.specs.State.{State}
use Rattle.block_pointer.specs.declared.block.Block.{Block}
use Rattle.block_pointer.specs.declared.dva.Dva.{Dva}
use Rattle.block_pointer.specs.Copies.{dvas}
use Rattle.block_store.specs.Blocks.{Contents}
use Rattle.block_store.specs.Places.{Marks, filled, run_at}
use Rattle.block_store.specs.Places.{planned as planned_marks}
use Rattle.block_store.specs.Shapes.{metaslab_of}
use Rattle.block_store.specs.Spaces.{VdevSpace}
use Rattle.block_store.specs.Uses.{IsInUse}

-- a sector of a metaslab of a vdev, counted from the metaslab's start
pub record SectorAt : Type 0 where
  pub vdev : ℕ
  pub metaslab : ℕ
  pub sector : ℕ

-- the sector is there, and this holds of what it is used for
pub record IsUsed (is : State → Type 0) (spaces : List VdevSpace) (marks : Marks) (at : SectorAt) : Type 0 where
  pub space : VdevSpace
  pub found : slice_get spaces at.vdev ≡ Some space
  pub metaslab : Space
  pub there : slice_get (marks space) at.metaslab ≡ Some metaslab
  pub within : at.sector < sectors_of metaslab
  pub used : is (state metaslab at.sector)

-- a copy of the block has that sector
pub record HasSector (spaces : List VdevSpace) (block : Block) (at : SectorAt) : Type 0 where
  pub i : ℕ
  pub place : Dva
  pub is_copy : slice_get (dvas block.copies) i ≡ Some place
  pub vdev_is : place.vdev ≡ at.vdev
  pub space : VdevSpace
  pub found : slice_get spaces at.vdev ≡ Some space
  pub metaslab_is : metaslab_of space.shape place ≡ at.metaslab
  pub names_it : IsTrue (names (run_at space.shape place) at.sector)

-- the sector is in a block that the plan adds
pub record IsOfNew (spaces : List VdevSpace) (stored planned : Contents) (at : SectorAt) : Type 0 where
  pub block : Block
  pub bytes : List ℕ
  pub is_planned : planned block ≡ Some bytes
  pub is_new : stored block ≡ None
  pub has : HasSector spaces block at

-- each sector that is in use with the plan is in use without it too, or is in a block that the plan adds
abbrev pub AreAccounted : List VdevSpace → Contents → Contents → Type 0
AreAccounted spaces stored planned = (at : SectorAt) → IsUsed IsInUse spaces planned_marks at
    → IsUsed IsInUse spaces filled at ⊎ IsOfNew spaces stored planned at
