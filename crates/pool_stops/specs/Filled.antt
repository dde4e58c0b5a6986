-- Which bytes of the disks are filled: those of sectors that are not free, without what is planned.
use Rattle.std.specs.Prelude.{ℕ, ◌≡◌, ◌+◌, ◌-◌, ◌*◌, ◌/◌, ◌%◌, Bool, true, false, ◌&&◌, nat_le, nat_lt, if◌then◌else◌, List, slice_get, Option, Some, None}
use Rattle.std.specs.List.{list_any}
use Rattle.block_pointer.specs.declared.dva.Dva.{Dva}
use Rattle.metaslab.specs.Space.{Space, state}
use Rattle.metaslab.specs.State.{State, Free, InUse, Released}
use Rattle.raidz_io.specs.Elsewhere.{IsOfExtent}
use Rattle.raidz_io.specs.Places.{offset_of_sector}
use Rattle.raidz_io.specs.declared.vdev.Extent.{Extent}
use Rattle.block_store.specs.Elsewhere.{IsForBlocks}
use Rattle.block_store.specs.Places.{IsExtentAt, IsFree, IsLaidOut, IsTaken, filled}
use Rattle.block_store.specs.Shapes.{metaslab_sectors}
use Rattle.block_store.specs.Spaces.{VdevSpace}
use Rattle.block_store.specs.Uses.{LiesOn}
use Rattle.block_store.specs.declared.shape.VdevShape.{VdevShape}
use Rattle.pool_slots.specs.Possible.{Trees}

-- ---- where a byte lies

-- the byte of that disk is in one of the vdev's sectors for blocks
abbrev pub is_in_vdev : VdevShape → ℕ → ℕ → Bool
is_in_vdev shape disk i =
    (nat_le shape.vdev.first disk && nat_lt disk (shape.vdev.first + shape.vdev.geometry.children))
    && (nat_le (offset_of_sector 0) i && nat_lt i (offset_of_sector shape.child_sectors))

-- in which, counted over the whole vdev
abbrev pub sector_at : VdevShape → ℕ → ℕ → ℕ
sector_at shape disk i = (i - offset_of_sector 0) / 512 * shape.vdev.geometry.children + (disk - shape.vdev.first)

-- ---- whether it is filled

-- a sector of this state is not free: it is in use, or was released and is not free again yet
abbrev pub is_taken : State → Bool
is_taken Free = false
is_taken InUse = true
is_taken (Released group) = true

-- the sector of the metaslab is not free; where there is no such metaslab none is taken
abbrev pub is_taken_in : Option Space → ℕ → Bool
is_taken_in None sector = false
is_taken_in (Some metaslab) sector = is_taken (state metaslab sector)

-- a sector of the vdev isn't free, without what is planned
abbrev pub is_filled_sector : VdevSpace → ℕ → Bool
is_filled_sector space sector =
    is_taken_in (slice_get (filled space) (sector / metaslab_sectors space.shape)) (sector % metaslab_sectors space.shape)

-- the byte of that disk is in such a sector of some vdev
abbrev pub is_filled : List VdevSpace → ℕ → ℕ → Bool
is_filled spaces disk i = list_any (λ space. is_in_vdev space.shape disk i && is_filled_sector space (sector_at space.shape disk i)) spaces

-- it is in a sector for blocks of some vdev
abbrev pub is_for_blocks : List VdevSpace → ℕ → ℕ → Bool
is_for_blocks spaces disk i = list_any (λ space. is_in_vdev space.shape disk i) spaces

-- The tree of every root: all bytes that are picked, as the disks have them.
abbrev pub all_picked : (ℕ → ℕ → Bool) → (ℕ → ℕ → Option ℕ) → Trees
all_picked picks held root disk i = if picks disk i then held disk i else None

-- ---- laws

-- each byte of a block that lies in a place with no free sector is filled
abbrev pub StoredBlocksAreInUse : Type 0
StoredBlocksAreInUse =
    (spaces : List VdevSpace) (sectors : ℕ) (place : Dva) (extent : Extent) (disk i : ℕ) → IsTaken spaces filled sectors place → IsExtentAt spaces sectors place extent
    → IsOfExtent extent disk i → is_filled spaces disk i ≡ true

-- no byte of a block that lies in a free place is filled
abbrev pub FreePlacesAreUnfilled : Type 0
FreePlacesAreUnfilled =
    (starts : List (List ℕ)) (spaces : List VdevSpace) (sectors : ℕ) (place : Dva) (extent : Extent) (disk i : ℕ) → IsLaidOut starts spaces
    → LiesOn IsFree spaces filled sectors place → IsExtentAt spaces sectors place extent → IsOfExtent extent disk i → is_filled spaces disk i ≡ false

-- what is filled is for blocks
abbrev pub FilledBytesAreForBlocks : Type 0
FilledBytesAreForBlocks = (spaces : List VdevSpace) (disk i : ℕ) → is_filled spaces disk i ≡ true → IsForBlocks spaces disk i
