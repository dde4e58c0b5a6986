-- Where the copies of blocks lie, on vdevs whose disks have room for them.
use Rattle.std.specs.Prelude.{ℕ, ◌≡◌, ◌+◌, ◌<◌, ◌≤◌, ◌⊎◌, Some, List, [], ◌∷◌, slice_get, Contains}
use Rattle.block_pointer.specs.declared.block.Block.{Block}
use Rattle.block_pointer.specs.declared.dva.Dva.{Dva}
use Rattle.block_pointer.specs.Copies.{dvas}
use Rattle.block_store.specs.declared.shape.VdevShape.{VdevShape}
use Rattle.block_store.specs.Shapes.{vdev_sectors}
use Rattle.model_disk.specs.Joint.{Disks}
use Rattle.raidz_io.specs.declared.vdev.Extent.{Extent}
use Rattle.raidz_io.specs.Places.{HasRoom}
use Rattle.raidz_io.specs.Reads.{OnlyReads, MoreAreLost, absent_since}
use Rattle.raidz_io.specs.Choices.{HasNoChoice, IsChoice}
use Rattle.raidz_map.specs.Layout.{asize}

-- each vdev has the disks and the room that its shape tells
abbrev pub HaveRoom : List VdevShape → List (List ℕ) → Type 0
HaveRoom shapes starts = (v : ℕ) (shape : VdevShape) → slice_get shapes v ≡ Some shape → HasRoom shape.vdev shape.child_sectors starts

-- a block of so many sectors lies there, within its vdev
pub record IsExtentOn (shapes : List VdevShape) (sectors : ℕ) (place : Dva) (extent : Extent) : Type 0 where
  pub shape : VdevShape
  pub found : slice_get shapes place.vdev ≡ Some shape
  pub vdev : extent.vdev ≡ shape.vdev
  pub start : extent.start ≡ place.offset
  pub sectors_are : extent.sectors ≡ sectors
  pub within : place.offset + asize shape.vdev.geometry sectors ≤ vdev_sectors shape

-- copy i of the block lies there
pub record IsCopyOn (shapes : List VdevShape) (block : Block) (i : ℕ) (extent : Extent) : Type 0 where
  pub place : Dva
  pub is_copy : slice_get (dvas block.copies) i ≡ Some place
  pub extent_is : IsExtentOn shapes block.property.sectors place extent

-- A copy could not be read at some moment since: too many of its columns were lost, or no choice of them has the digest.
pub record IsUnread (old new : Disks) (missing digest : List ℕ) (extent : Extent) : Type 0 where
  pub before : Disks
  pub after : Disks
  pub first : OnlyReads old before
  pub later : OnlyReads after new
  pub cause : MoreAreLost extent (absent_since before after missing) ⊎ HasNoChoice before after missing digest extent

-- so it is of the copy of the block that lies there
abbrev pub IsUnreadAt : List VdevShape → Disks → Disks → List ℕ → Block → Dva → Type 0
IsUnreadAt shapes old new missing block place =
    (extent : Extent) × IsExtentOn shapes block.property.sectors place extent × IsUnread old new missing block.checksum extent

-- and of each of these copies
abbrev pub AreUnread : List VdevShape → Disks → Disks → List ℕ → Block → List Dva → Type 0
AreUnread shapes old new missing block [] = Unit {0}
AreUnread shapes old new missing block (place ∷ places) =
    IsUnreadAt shapes old new missing block place × AreUnread shapes old new missing block places

-- no copy of a block of so many sectors, if it has any, can lie there
abbrev pub IsNoPlace : List VdevShape → ℕ → Dva → Type 0
IsNoPlace shapes sectors place = (extent : Extent) → 0 < sectors → ¬ IsExtentOn shapes sectors place extent

-- none of the block can
abbrev pub IsMisplaced : List VdevShape → Block → Dva → Type 0
IsMisplaced shapes block place = IsNoPlace shapes block.property.sectors place

-- so it is of one of these copies
abbrev pub AreMisplaced : List VdevShape → Block → List Dva → Type 0
AreMisplaced shapes block places = (place : Dva) × Contains places place × IsMisplaced shapes block place

-- The bytes are those of the copy that lies there, by what reads since gave: of each of its columns, but for those on as many disks as it has parities.
abbrev pub IsChosenAt : List VdevShape → Disks → Disks → Block → List ℕ → Dva → Type 0
IsChosenAt shapes old new block bytes place = (extent : Extent) × IsExtentOn shapes block.property.sectors place extent × IsChoice old new extent bytes

-- so it is of one of these copies
abbrev pub IsChosenOf : List VdevShape → Disks → Disks → Block → List ℕ → List Dva → Type 0
IsChosenOf shapes old new block bytes places = (place : Dva) × Contains places place × IsChosenAt shapes old new block bytes place
