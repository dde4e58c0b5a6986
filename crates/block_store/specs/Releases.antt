-- Blocks that are given back, and what is due as a plan begins.
use Rattle.std.specs.Prelude.{ℕ, ◌≡◌, Bool, Some, List, [], ◌∷◌, ◌++◌, length, map, slice_get, slice_set, Contains}
use Rattle.std.specs.List.{flat_map}
use Rattle.block_pointer.specs.declared.block.Block.{Block}
use Rattle.block_pointer.specs.declared.dva.Dva.{Dva}
use Rattle.block_pointer.specs.Copies.{dvas}
use Rattle.metaslab.specs.Space.{Space}
use Rattle.metaslab.specs.State.{State, InUse, Released}
use Rattle.metaslab.specs.Spaces.{ChangesIn, AreSettled, AreSettledInPart}
use Rattle.block_store.specs.Blocks.{Contents}
use Rattle.block_store.specs.Places.{run_at, planned, filled}
use Rattle.block_store.specs.Shapes.{metaslab_of, IsPlace}
use Rattle.block_store.specs.Spaces.{VdevSpace}
use Rattle.block_store.specs.Steps.{Placed, HavePlaced}
use Rattle.block_store.specs.Uses.{LiesOn, CopiesLieOn, Passes, IsInUse, IsSpared}

-- ---- blocks that are given back

-- one of so many copies of a block of so many sectors
pub record CopyAt : Type 0 where
  pub sectors : ℕ
  pub copies : ℕ
  pub place : Dva

-- the block's copy that lies there, and those at these places
abbrev pub copy_of_at : Block → Dva → CopyAt
copy_of_at block place = record { sectors = block.property.sectors; copies = length (dvas block.copies); place = place }

-- the block's copies that lie at these places, in their order
abbrev pub copies_of_at : Block → List Dva → List CopyAt
copies_of_at block places = map (copy_of_at block) places

-- all copies of the block, in order
abbrev pub copies_of : Block → List CopyAt
copies_of block = copies_of_at block (dvas block.copies)

-- all copies of these blocks, in order
abbrev pub copies_of_all : List Block → List CopyAt
copies_of_all blocks = flat_map copies_of blocks

-- the plan gives the copy back with that group: its sectors were in use and are released, and all else is as it was
pub record IsReleased (spaces : List VdevSpace) (copy : CopyAt) (group : ℕ) (after : List VdevSpace) : Type 0 where
  pub space : VdevSpace
  pub found : slice_get spaces copy.place.vdev ≡ Some space
  pub is_place : IsPlace space.shape copy.sectors copy.place
  pub later : List Space
  pub released : ChangesIn (planned space) later (metaslab_of space.shape copy.place) (run_at space.shape copy.place) InUse (Released group)
  pub rest : after ≡ slice_set spaces copy.place.vdev (record space { planned = later })

-- one copy after the other
abbrev pub AreReleased : List VdevSpace → List CopyAt → ℕ → List VdevSpace → Type 0
AreReleased spaces [] group after = after ≡ spaces
AreReleased spaces (copy ∷ copies) group after =
    (mid : List VdevSpace) × IsReleased spaces copy group mid × AreReleased mid copies group after

-- some of them were, and others were not
pub record AreReleasedInPart (spaces : List VdevSpace) (copies : List CopyAt) (group : ℕ) (after : List VdevSpace) : Type 0 where
  pub done : List CopyAt
  pub left : List CopyAt
  pub are : copies ≡ done ++ left
  pub released : AreReleased spaces done group after

-- and of the first that was not, not all sectors are in use
pub record IsNotReleasable (spaces : List VdevSpace) (copies : List CopyAt) (group : ℕ) (after : List VdevSpace) : Type 0 where
  pub done : List CopyAt
  pub next : CopyAt
  pub left : List CopyAt
  pub are : copies ≡ done ++ next ∷ left
  pub released : AreReleased spaces done group after
  pub not_in_use : ¬ LiesOn IsInUse after planned next.sectors next.place

-- all sectors of these blocks are in use
abbrev pub AreAllInUse : List VdevSpace → List Block → Type 0
AreAllInUse spaces blocks = (block : Block) → Contains blocks block → CopiesLieOn IsInUse spaces planned block

-- ---- what is due as a plan begins

-- in each metaslab what is due to the group is free, of what stored blocks fill and have released
abbrev pub AreSettledIn : ℕ → List VdevSpace → List VdevSpace → Type 0
AreSettledIn group spaces after = (v : ℕ) (space later : VdevSpace) → slice_get spaces v ≡ Some space → slice_get after v ≡ Some later
    → (later.pins ≡ space.pins) × AreSettled space.pins group (filled space) (filled later)

-- in some it is, and the others are as they were
abbrev pub AreSettledInSome : ℕ → List VdevSpace → List VdevSpace → Type 0
AreSettledInSome group spaces after = (v : ℕ) (space later : VdevSpace) → slice_get spaces v ≡ Some space → slice_get after v ≡ Some later
    → (later.pins ≡ space.pins) × AreSettledInPart space.pins group (filled space) (filled later)

-- no sector of a stored block is due to the group
abbrev pub AreSpared : ℕ → List VdevSpace → Contents → Type 0
AreSpared group spaces stored = (block : Block) (bytes : List ℕ) → stored block ≡ Some bytes → CopiesLieOn (IsSpared group) spaces filled block

-- ---- laws

-- As further blocks are placed, sectors that aren't free stay as they were: whatever holds of a block's sectors does so still, if it
-- holds of one in use.
abbrev pub PlacesSpare : Type 0
PlacesSpare = (test : State → Bool) (spaces after : List VdevSpace) (placed : List Placed) (block : Block) → Passes test InUse
    → HavePlaced spaces placed after → CopiesLieOn (Passes test) spaces planned block → CopiesLieOn (Passes test) after planned block
