-- What disks lead to: the uberblock that an open finds on them.
use Rattle.std.specs.Prelude.{◌≡◌, ◌⊎◌, ◌≤◌, ◌<◌, ℕ, ◌+◌, Bool, List, ◌∷◌, length, slice_get, Option, Some, Contains}
use Rattle.model_disk.specs.Joint.{JointCall, Disks, bytes_of, content, MayLeaveAll}
use Rattle.block_pointer.specs.declared.block.Block.{Block}
use Rattle.uberblock_ring.specs.declared.uberblock.Uberblock.{Uberblock}
use Rattle.uberblock_ring.specs.Ranking.{RanksUpTo}
use Rattle.pool_slots.specs.Slots.{InUse, IsSlot, Shows, slot_at, IsOutOfReach, AreUntorn}

-- the uberblock last answered as committed or opened, those that were begun to be written since, and those that it followed
pub record Possible : Type 0 where
  pub last : Uberblock
  pub begun : List Uberblock
  pub before : List Uberblock

-- the last uberblock, and those that were begun to be written since
abbrev pub all_of : Possible → List Uberblock
all_of p = p.last ∷ p.begun

-- under the last one's claim, one of the two groups before it
pub record IsBefore (last : Uberblock) (before : List Uberblock) (u : Uberblock) : Type 0 where
  pub among : Contains before u
  pub claim : u.claim ≡ last.claim
  pub lower : u.group < last.group
  pub near : last.group ≤ u.group + 2

-- what an open may come to: one of the possible ones, or where it goes back one of the two groups before the last one
abbrev pub IsInReach : Possible → Uberblock → Type 0
IsInReach p u = Contains (all_of p) u ⊎ IsBefore p.last p.before u

-- ---- one disk

-- a slot's reading is out of this uberblock's reach, or has this
pub record IsAllowed (held : ℕ → Option ℕ) (place slot : ℕ) (last : Uberblock) (IsGood : Uberblock → Type 0) : Type 0 where
  pub u : Uberblock
  pub shows : Shows held place slot u
  pub rank : IsOutOfReach u last ⊎ IsGood u

-- some slot shows an uberblock that is no lower than this
pub record IsTopped (size : ℕ) (held : ℕ → Option ℕ) (last : Uberblock) : Type 0 where
  pub label : ℕ
  pub slot : ℕ
  pub u : Uberblock
  pub is_slot : IsSlot label slot
  pub shows : Shows held (slot_at size label slot) slot u
  pub rank : RanksUpTo last u

-- One disk of this size: all that its slots show is out of the last uberblock's reach, or good; and one shows what is no lower.
pub record LeadsOn (size : ℕ) (held : ℕ → Option ℕ) (last : Uberblock) (IsGood : Uberblock → Type 0) : Type 0 where
  pub only : (label slot : ℕ) → IsSlot label slot → (u : Uberblock) → Shows held (slot_at size label slot) slot u
      → IsAllowed held (slot_at size label slot) slot last IsGood
  pub top : IsTopped size held last

-- each reading of a slot is out of its reach
abbrev pub AreBelow : ℕ → (ℕ → Option ℕ) → Uberblock → Type 0
AreBelow size held v =
    (label slot : ℕ) → IsSlot label slot → (u : Uberblock) → Shows held (slot_at size label slot) slot u → IsAllowed held (slot_at size label slot) slot v (λ w. ⊥)

-- ---- the disks in use

-- what the tree below a root has at each byte of each disk, where that byte is the tree's
abbrev pub Trees : Type 0
Trees = Block → ℕ → ℕ → Option ℕ

-- the tree's bytes are there
abbrev pub TreeStands : Trees → List Bool → (ℕ → ℕ → Option ℕ) → Block → Type 0
TreeStands trees out held root = (which i value : ℕ) → InUse out which → trees root which i ≡ Some value → held which i ≡ Some value

-- an open may come to it, and its tree stands
abbrev pub IsPossible : Trees → List Bool → (ℕ → ℕ → Option ℕ) → Possible → Uberblock → Type 0
IsPossible trees out held p u = IsInReach p u × TreeStands trees out held u.root

-- each reading of their slots is out of its reach
abbrev pub AllAreBelow : List Bool → Disks → Uberblock → Type 0
AllAreBelow out disks u = (which : ℕ) → InUse out which → AreBelow (length (bytes_of disks.starts which)) (content disks which) u

-- the disks in use lead to one of the possible uberblocks, each disk by itself
abbrev pub Leads : Trees → List Bool → List (List ℕ) → (ℕ → ℕ → Option ℕ) → Possible → Type 0
Leads trees out starts held p =
    (which : ℕ) → InUse out which → LeadsOn (length (bytes_of starts which)) (held which) p.last (IsPossible trees out held p)

-- the bytes of images
abbrev pub held_by : List (List ℕ) → ℕ → ℕ → Option ℕ
held_by images which i = slice_get (bytes_of images which) i

-- whatever a stop now leaves leads to one of the possible uberblocks
abbrev pub LeavesLeading : Trees → List Bool → List (List ℕ) → Possible → List JointCall → Type 0
LeavesLeading trees out starts p calls =
    (images : List (List ℕ)) → MayLeaveAll starts calls images → AreUntorn out starts calls images → Leads trees out images (held_by images) p
