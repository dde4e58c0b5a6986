-- Claims that labels show, at each moment.
use Rattle.std.specs.Prelude.{◌≡◌, ◌⊎◌, ◌≤◌, ℕ, ◌^◌, Bool, List, length, slice_get, Option, Some}
use Rattle.model_disk.specs.Joint.{JointCall, Disks, bytes_of, content, MayLeaveAll}
use Rattle.model_disk.specs.Runs.{EachSince}
use Rattle.uberblock_ring.specs.declared.uberblock.Uberblock.{Uberblock}
use Rattle.vdev_label.specs.Plain.{PlainLabel}
use Rattle.pool_slots.specs.Labels.{IsLabelShown, IsShownInUse}
use Rattle.pool_slots.specs.Possible.{held_by}
use Rattle.pool_slots.specs.Slots.{InUse}
use Rattle.pool_slots.specs.declared.labeled.Area.{Area}

-- some label of a disk of this size shows a claim that is no less
pub record IsMarked (size : ℕ) (held : ℕ → Option ℕ) (claim : ℕ) : Type 0 where
  pub number : ℕ
  pub label : PlainLabel
  pub shown : IsLabelShown size held number label
  pub no_less : claim ≤ label.claim

-- each disk in use has one
abbrev pub AreMarked : List Bool → List (List ℕ) → (ℕ → ℕ → Option ℕ) → ℕ → Type 0
AreMarked out starts held claim = (which : ℕ) → InUse out which → IsMarked (length (bytes_of starts which)) (held which) claim

-- whatever a stop now leaves shows a claim that is no less, on each disk in use
abbrev pub LeavesMarked : List Bool → List (List ℕ) → ℕ → List JointCall → Type 0
LeavesMarked out starts claim calls = (images : List (List ℕ)) → MayLeaveAll starts calls images → AreMarked out images (held_by images) claim

-- a stop at any moment since the old one leaves, on each disk in use, a label with a claim that is no less
abbrev pub MarkedAlways : List Bool → Disks → Disks → ℕ → Type 0
MarkedAlways out old new claim = EachSince (length old.calls) (LeavesMarked out old.starts claim) new.calls

-- another label than this one shows a claim that is no less
pub record IsSpared (size : ℕ) (held : ℕ → Option ℕ) (first claim : ℕ) : Type 0 where
  pub number : ℕ
  pub other : ¬ (number ≡ first)
  pub label : PlainLabel
  pub shown : IsLabelShown size held number label
  pub no_less : claim ≤ label.claim

-- beside each disk's claim label another shows no less than any label of the disk
abbrev pub SparesMark : List Bool → Disks → List (Option Area) → Type 0
SparesMark out disks areas =
    (which number : ℕ) (area : Area) (l : PlainLabel) → slice_get areas which ≡ Some (Some area)
    → IsLabelShown (length (bytes_of disks.starts which)) (content disks which) number l
    → IsSpared (length (bytes_of disks.starts which)) (content disks which) area.first l.claim

-- no claim is left above those that the highest uberblock has, and the labels of disks in use show
abbrev pub IsUsedUp : List Bool → Disks → Uberblock → Type 0
IsUsedUp out disks highest = (2 ^ 62 ≤ highest.claim) ⊎ ((l : PlainLabel) × IsShownInUse out disks l × (2 ^ 62 ≤ l.claim))
