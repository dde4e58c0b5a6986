-- Blocks that are on the disks already.
use Rattle.std.specs.Prelude.{ℕ, ◌≡◌, ◌+◌, ◌<◌, ◌≤◌, ◌⊎◌, Bool, Some, List, [], ◌∷◌, ◌++◌, length, slice_get, slice_set, Contains}
use Rattle.model_disk.specs.Joint.{content}
use Rattle.block_pointer.specs.declared.block.Block.{Block}
use Rattle.block_pointer.specs.Copies.{dvas}
use Rattle.block_pointer.specs.declared.dva.Dva.{Dva}
use Rattle.metaslab.specs.State.{State, Free, InUse}
use Rattle.metaslab.specs.Spaces.{ChangesIn}
use Rattle.raidz_io.specs.declared.vdev.Extent.{Extent}
use Rattle.raidz_io.specs.Stands.{ExtentStands}
use Rattle.block_store.specs.Accounts.{SectorAt, IsUsed, HasSector}
use Rattle.block_store.specs.Blocks.{Contents, IsWrittenAs, nothing_stored}
use Rattle.block_store.specs.Places.{Marks, filled, run_at, IsFree, IsCopy, IsPlaceFor, ArePlacesIn, ArePlacesApart}
use Rattle.block_store.specs.Places.{planned as planned_marks}
use Rattle.block_store.specs.Releases.{CopyAt}
use Rattle.block_store.specs.declared.shape.VdevShape.{VdevShape}
use Rattle.block_store.specs.Config.{AreAllowedSizes, sectors_of, size_of}
use Rattle.block_store.specs.Shapes.{metaslab_of, metaslabs, IsPlace, HasRegions, IsInRegion}
use Rattle.block_store.specs.Spaces.{VdevSpace}
use Rattle.block_store.specs.Store.{Store, Holds, lost}
use Rattle.block_store.specs.Plans.{Plans}
use Rattle.block_store.specs.Uses.{LiesOn, CopiesLieOn, IsInUse}

-- ---- the vdevs of a pool that is there

-- Each disk of the vdev, one that is out too, is of an allowed size and has as many sectors for blocks as the vdev uses of it. And
-- the vdev has at most 1,024 metaslabs, some of them in its meta region and some before it.
pub record FitsDisks (starts : List (List ℕ)) (shape : VdevShape) : Type 0 where
  pub there : shape.vdev.first + shape.vdev.geometry.children ≤ length starts
  pub sizes : AreAllowedSizes starts shape.vdev.first (shape.vdev.first + shape.vdev.geometry.children)
  pub sectors : (disk : ℕ) → shape.vdev.first ≤ disk → disk < shape.vdev.first + shape.vdev.geometry.children
      → shape.child_sectors ≤ sectors_of (size_of starts disk)
  pub regions : HasRegions shape
  pub few : metaslabs shape ≤ 1024

-- the vdevs take the disks from that one on in order, and all of them
abbrev pub LieOn : List (List ℕ) → ℕ → List VdevShape → Type 0
LieOn starts first [] = first ≡ length starts
LieOn starts first (shape ∷ shapes) = (shape.vdev.first ≡ first) × FitsDisks starts shape × LieOn starts (first + shape.vdev.geometry.children) shapes

-- a store may be opened with these vdevs, of whose disks these are out
pub record MayBeOpened (starts : List (List ℕ)) (shapes : List VdevShape) (out : List Bool) : Type 0 where
  pub some : 1 ≤ length shapes
  pub few : length shapes ≤ 8
  pub lie : LieOn starts 0 shapes
  pub flags : length out ≡ length starts

-- ---- copies that are taken in

-- the copy may lie there, in the region for it, and each sector of the place is free, without what is planned and with it
pub record HasFreePlace (spaces : List VdevSpace) (copy : CopyAt) : Type 0 where
  pub place_for : IsPlaceFor spaces copy.sectors copy.copies copy.place
  pub filled_free : LiesOn IsFree spaces filled copy.sectors copy.place
  pub planned_free : LiesOn IsFree spaces planned_marks copy.sectors copy.place

-- the copy is taken in: its sectors were free and are in use, without what is planned and with it, and all else is as it was
pub record TakesIn (spaces : List VdevSpace) (copy : CopyAt) (after : List VdevSpace) : Type 0 where
  pub some : 0 < copy.sectors
  pub space : VdevSpace
  pub found : slice_get spaces copy.place.vdev ≡ Some space
  pub is_place : IsPlace space.shape copy.sectors copy.place
  pub region : IsInRegion space.shape copy.copies (metaslab_of space.shape copy.place)
  pub later : VdevSpace
  pub filled_too : ChangesIn (filled space) (filled later) (metaslab_of space.shape copy.place) (run_at space.shape copy.place) Free InUse
  pub planned_too : ChangesIn (planned_marks space) (planned_marks later) (metaslab_of space.shape copy.place) (run_at space.shape copy.place) Free InUse
  pub shape : later.shape ≡ space.shape
  pub pins : later.pins ≡ space.pins
  pub rest : after ≡ slice_set spaces copy.place.vdev later

-- one copy after the other
abbrev pub TakeIn : List VdevSpace → List CopyAt → List VdevSpace → Type 0
TakeIn spaces [] after = after ≡ spaces
TakeIn spaces (copy ∷ copies) after = (mid : List VdevSpace) × TakesIn spaces copy mid × TakeIn mid copies after

-- some of them were, and others were not
pub record TakeInPart (spaces : List VdevSpace) (copies : List CopyAt) (after : List VdevSpace) : Type 0 where
  pub done : List CopyAt
  pub left : List CopyAt
  pub are : copies ≡ done ++ left
  pub taken : TakeIn spaces done after

-- and the first that was not has no free place
pub record CannotTakeIn (spaces : List VdevSpace) (copies : List CopyAt) (after : List VdevSpace) : Type 0 where
  pub done : List CopyAt
  pub next : CopyAt
  pub left : List CopyAt
  pub are : copies ≡ done ++ next ∷ left
  pub taken : TakeIn spaces done after
  pub not_free : ¬ HasFreePlace after next

-- ---- which sectors they fill

-- one of these blocks has that sector
abbrev pub IsOfOne : List VdevSpace → List Block → SectorAt → Type 0
IsOfOne spaces blocks at = (block : Block) × Contains blocks block × HasSector spaces block at

-- The sectors of these blocks were free and are in use, and each other that is in use was so. What a sector is used for it was used for
-- before, or it is in use.
pub record Fills (spaces : List VdevSpace) (marks : Marks) (blocks : List Block) (after : List VdevSpace) : Type 0 where
  pub were_free : (at : SectorAt) → IsOfOne spaces blocks at → IsUsed IsFree spaces marks at
  pub are_in_use : (at : SectorAt) → IsOfOne spaces blocks at → IsUsed IsInUse after marks at
  pub only : (at : SectorAt) → IsUsed IsInUse after marks at → IsUsed IsInUse spaces marks at ⊎ IsOfOne spaces blocks at
  pub stay : (at : SectorAt) → IsUsed IsInUse spaces marks at → IsUsed IsInUse after marks at
  pub rest : (state : State) (at : SectorAt) → IsUsed (λ s. s ≡ state) after marks at → IsUsed (λ s. s ≡ state) spaces marks at ⊎ (InUse ≡ state)

-- ---- which blocks are known from then on

-- the pointer tells these bytes, and each column of each copy stands on every disk that isn't lost for the block's birth
pub record IsOnDisks (store : Store) (block : Block) (bytes : List ℕ) : Type 0 where
  pub written : IsWrittenAs block bytes
  pub stand : (i : ℕ) (extent : Extent) → IsCopy store.spaces block i extent → ExtentStands (content store.disks) (lost store block.birth) extent bytes

-- each block that is known was known before, with the same bytes, or is one of these and on the disks
abbrev pub AreFound : Store → List Block → Contents → Contents → Type 0
AreFound store blocks before stored = (block : Block) (bytes : List ℕ) → stored block ≡ Some bytes
    → (before block ≡ Some bytes) ⊎ (Contains blocks block × IsOnDisks store block bytes)

-- blocks that are on the disks, in places of the pool, may be read before they are taken in
abbrev pub FoundAreHeld : Type 0
FoundAreHeld = (store : Store) (blocks : List Block) (stored : Contents) → AreFound store blocks nothing_stored stored
    → ((block : Block) → Contains blocks block → ArePlacesIn store.spaces block.property.sectors (dvas block.copies)) → Holds store stored

-- no two copies of these blocks share a sector, be they of one block or of two
abbrev pub AreBlocksApart : List Block → Type 0
AreBlocksApart blocks = (block other : Block) (i k : ℕ) (place behind : Dva) → Contains blocks block → Contains blocks other
    → slice_get (dvas block.copies) i ≡ Some place → slice_get (dvas other.copies) k ≡ Some behind
    → ((block ≡ other) × (i ≡ k)) ⊎ ArePlacesApart place behind

-- Where nothing was stored and nothing planned, blocks that are on the disks are stored once all their sectors are in use, without what is
-- planned and with it, if they lie apart, in places of the pool: as where a metaslab's space map was loaded, in place of its blocks.
abbrev pub FoundInUseAreStored : Type 0
FoundInUseAreStored = (store : Store) (blocks : List Block) (stored : Contents) → Plans store nothing_stored nothing_stored
    → AreFound store blocks nothing_stored stored
    → ((block : Block) → Contains blocks block → ArePlacesIn store.spaces block.property.sectors (dvas block.copies))
    → ((block : Block) → Contains blocks block → CopiesLieOn IsInUse store.spaces filled block × CopiesLieOn IsInUse store.spaces planned_marks block)
    → AreBlocksApart blocks → Plans store stored stored
