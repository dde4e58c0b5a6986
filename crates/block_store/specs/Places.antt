-- Where copies of blocks lie.
use Rattle.std.specs.Prelude.{ℕ, ◌≡◌, ◌≢◌, ◌⊎◌, ◌+◌, ◌<◌, ◌≤◌, Some, List, [], ◌∷◌, ◌++◌, length, slice_get, slice_set, map, Contains, All, IsTrue}
use Rattle.block_pointer.specs.declared.block.Block.{Block}
use Rattle.block_pointer.specs.declared.dva.Dva.{Dva}
use Rattle.block_pointer.specs.Copies.{dvas}
use Rattle.raidz_map.specs.Layout.{asize}
use Rattle.raidz_io.specs.declared.vdev.Extent.{Extent}
use Rattle.raidz_io.specs.Places.{HasRoom}
use Rattle.space_map.specs.declared.entry.Run.{Run}
use Rattle.space_map.specs.Sectors.{names}
use Rattle.metaslab.specs.Space.{Space, state}
use Rattle.metaslab.specs.State.{State, Free, InUse}
use Rattle.metaslab.specs.Spaces.{AreWhollyFree, HasFreeRunIn, ChangesIn}
use Rattle.block_store.specs.declared.choice.Spread.{Spread}
use Rattle.block_store.specs.declared.choice.Spread.TheVariants.{Vdevs, Metaslabs, Anywhere}
use Rattle.block_store.specs.declared.shape.VdevShape.{VdevShape}
use Rattle.block_store.specs.Spaces.{VdevSpace}
use Rattle.block_store.specs.Shapes.{metaslab_sectors, metaslabs, metaslab_of, sector_of, IsPlace, IsInRegion}

-- the shapes of these vdevs, in order
abbrev pub shapes_of : List VdevSpace → List VdevShape
shapes_of spaces = map (λ space. space.shape) spaces

-- What the sectors of each metaslab are used for: by blocks that are stored, and with those of the plan.
abbrev pub Marks : Type 0
Marks = VdevSpace → List Space

-- by blocks that are stored alone: each metaslab as the last committed group left it
abbrev pub filled : Marks
filled space = space.kept

-- with the blocks of the plan: each metaslab as the plan of the next group has it
abbrev pub planned : Marks
planned space = space.planned

-- of each vdev these marks are those that it had
abbrev pub HaveMarks : List VdevSpace → Marks → List VdevSpace → Marks → Type 0
HaveMarks spaces marks after later = (v : ℕ) (space new : VdevSpace) → slice_get spaces v ≡ Some space → slice_get after v ≡ Some new → later new ≡ marks space

-- no sector of the vdev is in use, and no group is pinned
pub record IsEmpty (space : VdevSpace) : Type 0 where
  pub count : length (filled space) ≡ metaslabs space.shape
  pub none_filled : AreWhollyFree (filled space) (metaslab_sectors space.shape)
  pub none_planned : planned space ≡ filled space
  pub none_pinned : space.pins ≡ []

-- so it is of every vdev
abbrev pub AreEmpty : List VdevSpace → Type 0
AreEmpty spaces = All IsEmpty spaces

-- the vdevs are on these disks, in their order, and share none
pub record IsLaidOut (starts : List (List ℕ)) (spaces : List VdevSpace) : Type 0 where
  pub room : (v : ℕ) (space : VdevSpace) → slice_get spaces v ≡ Some space → HasRoom space.shape.vdev space.shape.child_sectors starts
  pub apart : (v other : ℕ) (space behind : VdevSpace) → v < other → slice_get spaces v ≡ Some space → slice_get spaces other ≡ Some behind
      → space.shape.vdev.first + space.shape.vdev.geometry.children ≤ behind.shape.vdev.first
  pub few : length spaces ≤ 8

-- the place is in a vdev that is there, and a copy of a block of so many sectors may lie there
pub record IsPlaceIn (spaces : List VdevSpace) (sectors : ℕ) (place : Dva) : Type 0 where
  pub space : VdevSpace
  pub found : slice_get spaces place.vdev ≡ Some space
  pub is_place : IsPlace space.shape sectors place

-- and in the region for a block of so many copies
pub record IsPlaceFor (spaces : List VdevSpace) (sectors copies : ℕ) (place : Dva) : Type 0 where
  pub is_in : IsPlaceIn spaces sectors place
  pub region : IsInRegion is_in.space.shape copies (metaslab_of is_in.space.shape place)

-- all copies of a block of so many sectors may lie at these places
abbrev pub ArePlacesIn : List VdevSpace → ℕ → List Dva → Type 0
ArePlacesIn spaces sectors places = (place : Dva) → Contains places place → IsPlaceFor spaces sectors (length places) place

-- the sectors of a place in its metaslab
abbrev pub run_at : VdevShape → Dva → Run
run_at shape place = record { start = sector_of shape place; len = place.allocated }

-- the metaslab of the place is there, and this holds of what each sector of the place is used for
pub record EachSector (is : State → Type 0) (marks : List Space) (shape : VdevShape) (place : Dva) : Type 0 where
  pub metaslab : Space
  pub found : slice_get marks (metaslab_of shape place) ≡ Some metaslab
  pub each : (s : ℕ) → IsTrue (names (run_at shape place) s) → is (state metaslab s)

-- the sector is free: neither in use nor released
abbrev pub IsFree : State → Type 0
IsFree state = state ≡ Free

-- the sector is in use or released
abbrev pub IsNotFree : State → Type 0
IsNotFree state = state ≢ Free

-- and no sector of it is free
pub record IsTaken (spaces : List VdevSpace) (marks : Marks) (sectors : ℕ) (place : Dva) : Type 0 where
  pub space : VdevSpace
  pub found : slice_get spaces place.vdev ≡ Some space
  pub is_place : IsPlace space.shape sectors place
  pub not_free : EachSector IsNotFree (marks space) space.shape place

-- the extent of a copy of a block of so many sectors that lies there
pub record IsExtentAt (spaces : List VdevSpace) (sectors : ℕ) (place : Dva) (extent : Extent) : Type 0 where
  pub space : VdevSpace
  pub found : slice_get spaces place.vdev ≡ Some space
  pub vdev : extent.vdev ≡ space.shape.vdev
  pub start : extent.start ≡ place.offset
  pub sectors_are : extent.sectors ≡ sectors

-- no sector is in both
abbrev pub ArePlacesApart : Dva → Dva → Type 0
ArePlacesApart place other = (place.vdev ≢ other.vdev) ⊎ ((place.offset + place.allocated ≤ other.offset) ⊎ (other.offset + other.allocated ≤ place.offset))

-- copy i of the block lies there
pub record IsCopy (spaces : List VdevSpace) (block : Block) (i : ℕ) (extent : Extent) : Type 0 where
  pub place : Dva
  pub is_copy : slice_get (dvas block.copies) i ≡ Some place
  pub extent_is : IsExtentAt spaces block.property.sectors place extent

-- ---- the choice of a place

-- a metaslab of the vdev has room for a block of so many sectors beside what is planned: as many free sectors in a row as it takes up
abbrev pub HasRoomIn : VdevSpace → ℕ → ℕ → Type 0
HasRoomIn space metaslab sectors = HasFreeRunIn (planned space) metaslab (asize space.shape.vdev.geometry sectors)

-- the same of a metaslab of the vdev with that number
pub record HasRoomAt (spaces : List VdevSpace) (sectors v metaslab : ℕ) : Type 0 where
  pub space : VdevSpace
  pub found : slice_get spaces v ≡ Some space
  pub is_there : metaslab < metaslabs space.shape
  pub room : HasRoomIn space metaslab sectors

-- and it is in the region for a block of so many copies
pub record HasRoomFor (spaces : List VdevSpace) (sectors copies v metaslab : ℕ) : Type 0 where
  pub room : HasRoomAt spaces sectors v metaslab
  pub region : IsInRegion room.space.shape copies metaslab

-- one of the places is in the vdev, or in that metaslab of it
abbrev pub IsInVdev : List Dva → ℕ → Type 0
IsInVdev taken v = (place : Dva) × Contains taken place × (place.vdev ≡ v)

-- one of the places is in that metaslab of the vdev with that number and this shape
abbrev pub IsInMetaslab : VdevShape → List Dva → ℕ → ℕ → Type 0
IsInMetaslab shape taken v metaslab = (place : Dva) × Contains taken place × (place.vdev ≡ v) × (metaslab_of shape place ≡ metaslab)

-- a further copy may go to this metaslab
abbrev pub MayTake : VdevShape → List Dva → ℕ → ℕ → Spread → Type 0
MayTake shape taken v metaslab Vdevs = ¬ IsInVdev taken v
MayTake shape taken v metaslab Metaslabs = ¬ IsInMetaslab shape taken v metaslab
MayTake shape taken v metaslab Anywhere = Unit {0}

-- One of so many copies of a block of so many sectors may lie there, and no sector of the place is in use, by what is stored or planned.
pub record IsFreePlaceIn (space : VdevSpace) (sectors copies : ℕ) (place : Dva) : Type 0 where
  pub is_place : IsPlace space.shape sectors place
  pub region : IsInRegion space.shape copies (metaslab_of space.shape place)
  pub free : EachSector IsFree (planned space) space.shape place

-- a metaslab was found: it has room, and may be taken
pub record IsFound (spaces : List VdevSpace) (taken : List Dva) (sectors copies : ℕ) (spread : Spread) (v metaslab : ℕ) : Type 0 where
  pub there : HasRoomFor spaces sectors copies v metaslab
  pub may : MayTake there.room.space.shape taken v metaslab spread

-- no metaslab that has room may be taken
abbrev pub NoneIsFound : List VdevSpace → List Dva → ℕ → ℕ → Spread → Type 0
NoneIsFound spaces taken sectors copies spread =
    (v metaslab : ℕ) → (there : HasRoomFor spaces sectors copies v metaslab) → ¬ MayTake there.room.space.shape taken v metaslab spread

-- A further copy, of so many, of a block of so many sectors goes to this metaslab of its region, which has room: to another vdev than
-- those that were taken where one has room, and to another metaslab where one has.
pub record GoesTo (spaces : List VdevSpace) (taken : List Dva) (sectors copies v metaslab : ℕ) : Type 0 where
  pub there : HasRoomFor spaces sectors copies v metaslab
  pub other_vdev : (w other : ℕ) → HasRoomFor spaces sectors copies w other → ¬ IsInVdev taken w → ¬ IsInVdev taken v
  pub other_metaslab : (w other : ℕ) (one : HasRoomFor spaces sectors copies w other) → ¬ IsInMetaslab one.room.space.shape taken w other
      → ¬ IsInMetaslab there.room.space.shape taken v metaslab

-- A further copy, of so many, of a block of so many sectors goes there: to a place of its region that is free. It goes to another vdev
-- than those that were taken where one has room, and to another metaslab where one has.
pub record IsChosen (spaces : List VdevSpace) (taken : List Dva) (sectors copies : ℕ) (place : Dva) : Type 0 where
  pub space : VdevSpace
  pub found : slice_get spaces place.vdev ≡ Some space
  pub free : IsFreePlaceIn space sectors copies place
  pub other_vdev : (v metaslab : ℕ) → HasRoomFor spaces sectors copies v metaslab → ¬ IsInVdev taken v → ¬ IsInVdev taken place.vdev
  pub other_metaslab : (v metaslab : ℕ) (one : HasRoomFor spaces sectors copies v metaslab) → ¬ IsInMetaslab one.room.space.shape taken v metaslab
      → ¬ IsInMetaslab space.shape taken place.vdev (metaslab_of space.shape place)

-- the plan takes the place too: its sectors were free and are in use, and all else is as it was
pub record IsTakenToo (spaces : List VdevSpace) (place : Dva) (after : List VdevSpace) : Type 0 where
  pub space : VdevSpace
  pub found : slice_get spaces place.vdev ≡ Some space
  pub later : List Space
  pub taken : ChangesIn (planned space) later (metaslab_of space.shape place) (run_at space.shape place) Free InUse
  pub rest : after ≡ slice_set spaces place.vdev (record space { planned = later })

-- a copy of a block of so many sectors may lie there, in this metaslab, and the plan takes the place
pub record IsTakenIn (spaces : List VdevSpace) (sectors v metaslab : ℕ) (place : Dva) (after : List VdevSpace) : Type 0 where
  pub vdev_is : place.vdev ≡ v
  pub taken : IsTakenToo spaces place after
  pub is_place : IsPlace taken.space.shape sectors place
  pub metaslab_is : metaslab_of taken.space.shape place ≡ metaslab

-- the places, for some of so many copies, are chosen and taken one after the other
abbrev pub AreChosen : List VdevSpace → List Dva → ℕ → ℕ → List Dva → List VdevSpace → Type 0
AreChosen spaces taken sectors copies [] after = after ≡ spaces
AreChosen spaces taken sectors copies (place ∷ places) after =
    IsChosen spaces taken sectors copies place × (mid : List VdevSpace) × IsTakenToo spaces place mid
    × AreChosen mid (taken ++ place ∷ []) sectors copies places after

-- places for some of the copies, or for all, were chosen and taken
abbrev pub TookSome : List VdevSpace → ℕ → ℕ → List VdevSpace → Type 0
TookSome spaces sectors copies after = (places : List Dva) × (length places ≤ copies) × AreChosen spaces [] sectors copies places after

-- no vdev has a free place for one of so many copies of such a block
abbrev pub NoPlaceIsLeft : List VdevSpace → ℕ → ℕ → Type 0
NoPlaceIsLeft spaces sectors copies =
    (place : Dva) (space : VdevSpace) → slice_get spaces place.vdev ≡ Some space → ¬ IsFreePlaceIn space sectors copies place

-- places for some of the copies were chosen, and then no free place was left for another
abbrev pub RanOut : List VdevSpace → ℕ → ℕ → List VdevSpace → Type 0
RanOut spaces sectors copies after =
    (places : List Dva) × (length places < copies) × AreChosen spaces [] sectors copies places after × NoPlaceIsLeft after sectors copies
