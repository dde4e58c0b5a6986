-- The space maps of a store's metaslabs.
use Rattle.std.specs.Prelude.{ℕ, ◌≡◌, ◌<◌, Some, IsSomeAnd, List, slice_get, slice_set}
use Rattle.space_map.specs.FreeRuns.{FreeRuns}
use Rattle.metaslab.specs.Calls.{AreUnused}
use Rattle.metaslab.specs.Space.{Space}
use Rattle.metaslab.specs.State.{State}
use Rattle.metaslab.specs.Maps.{AreWhollyFreeOf, HoldsAt, LoadsAt}
use Rattle.metaslab.specs.Spaces.{Spaces, GroupSpaces}
use Rattle.block_store.specs.Accounts.{SectorAt, IsUsed}
use Rattle.block_store.specs.Places.{Marks, filled, planned}
use Rattle.block_store.specs.Shapes.{metaslabs, metaslab_sectors}
use Rattle.block_store.specs.Spaces.{VdevSpace}

-- the vdev's metaslabs without the plan and with it, and the groups that are pinned
abbrev pub group_of : VdevSpace → GroupSpaces
group_of space = record { kept = filled space; planned = planned space; pins = space.pins }

-- a vdev of that number is there, with a metaslab of that number
pub record HasMetaslab (spaces : List VdevSpace) (vdev metaslab : ℕ) : Type 0 where
  pub space : VdevSpace
  pub found : slice_get spaces vdev ≡ Some space
  pub is_there : metaslab < metaslabs space.shape

-- the metaslabs of the vdev have so many sectors
abbrev pub HasSectors : List VdevSpace → ℕ → ℕ → Type 0
HasSectors spaces vdev sectors = IsSomeAnd (slice_get spaces vdev) (λ space. sectors ≡ metaslab_sectors space.shape)

-- By these marks the set has just the sectors of the metaslab that are not in use: they are free, or were released.
pub record LeavesUnused (spaces : List VdevSpace) (marks : Marks) (vdev metaslab : ℕ) (free : FreeRuns) : Type 0 where
  pub space : VdevSpace
  pub found : slice_get spaces vdev ≡ Some space
  pub there : Space
  pub is_there : slice_get (marks space) metaslab ≡ Some there
  pub sectors : free.sectors ≡ metaslab_sectors space.shape
  pub unused : AreUnused there free

-- the metaslab is there, and this holds of it, without the plan and with it
pub record HoldsIn (are : Spaces → Type 0) (spaces : List VdevSpace) (vdev metaslab : ℕ) : Type 0 where
  pub space : VdevSpace
  pub found : slice_get spaces vdev ≡ Some space
  pub holds : HoldsAt are (group_of space) metaslab

-- A free set was taken in as what a metaslab has, which was wholly free, and all else is as it was.
pub record LoadsIn (spaces : List VdevSpace) (vdev metaslab : ℕ) (free : FreeRuns) (after : List VdevSpace) : Type 0 where
  pub space : VdevSpace
  pub later : VdevSpace
  pub found : slice_get spaces vdev ≡ Some space
  pub size : free.sectors ≡ metaslab_sectors space.shape
  pub was_free : HoldsAt (AreWhollyFreeOf free.sectors) (group_of space) metaslab
  pub loads : LoadsAt (group_of space) metaslab free (group_of later)
  pub shape : later.shape ≡ space.shape
  pub rest : after ≡ slice_set spaces vdev later

-- the sector isn't in that metaslab
abbrev pub IsElsewhere : ℕ → ℕ → SectorAt → Type 0
IsElsewhere vdev metaslab at = ¬ ((at.vdev ≡ vdev) × (at.metaslab ≡ metaslab))

-- what the sectors of all other metaslabs are used for is the same
abbrev pub StayElsewhere : Marks → List VdevSpace → ℕ → ℕ → List VdevSpace → Type 0
StayElsewhere marks spaces vdev metaslab after = (state : State) (at : SectorAt) → IsElsewhere vdev metaslab at
    → IsUsed (λ s. s ≡ state) spaces marks at → IsUsed (λ s. s ≡ state) after marks at
