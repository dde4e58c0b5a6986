-- Uberblocks in the slots of disks.
use Rattle.std.specs.Prelude.{◌≡◌, ◌⊎◌, ◌≤◌, ◌<◌, ℕ, ◌+◌, Bool, false, List, length, slice_get, Option, Some}
use Rattle.model_disk.specs.Joint.{JointCall, Disks, bytes_of, calls_on}
use Rattle.model_disk.specs.Runs.{Makes, IsSettled, IsUntorn}
use Rattle.uberblock_ring.specs.Place as place
use Rattle.uberblock_ring.specs.Slot.{slot_bytes, slot_number}
use Rattle.uberblock_ring.specs.Uberblock.{Fits}
use Rattle.uberblock_ring.specs.declared.uberblock.Uberblock.{Uberblock}
use Rattle.vdev_label.specs.Place.{label_at}

-- ---- disks

-- the disk of this number is not out
abbrev pub InUse : List Bool → ℕ → Type 0
InUse out which = slice_get out which ≡ Some false

-- a disk in use now was so before: one that was out stays out
abbrev pub StayOut : List Bool → List Bool → Type 0
StayOut out later = (which : ℕ) → InUse later which → InUse out which

-- each disk in use is there
abbrev pub AreThere : List Bool → List (List ℕ) → Type 0
AreThere out starts = (which : ℕ) → InUse out which → which < length starts

-- each disk has room for four labels
abbrev pub HaveLabels : List (List ℕ) → Type 0
HaveLabels starts = (which : ℕ) → which < length starts → 1048576 ≤ length (bytes_of starts which)

-- on each disk in use nothing was written since its last flush
abbrev pub AreSettled : List Bool → List JointCall → Type 0
AreSettled out calls = (which : ℕ) → InUse out which → IsSettled (calls_on which calls)

-- that one disk, and no other
abbrev pub is_disk : ℕ → ℕ → Type 0
is_disk disk which = which ≡ disk

-- since the old moment no writes were made but these, and no disks were called but these
pub record MakesOn (used : ℕ → Type 0) (may : ℕ → ℕ → List ℕ → Type 0) (old new : Disks) : Type 0 where
  pub makes : Makes may old new
  pub alone : (which : ℕ) → ¬ used which → calls_on which new.calls ≡ calls_on which old.calls

-- ---- slots

-- the bytes of an uberblock's slot
unfoldable pub spelled : Uberblock → List ℕ
spelled u = slot_bytes u

-- where a slot of a label begins on a disk of this size
unfoldable pub slot_at : ℕ → ℕ → ℕ → ℕ
slot_at size label slot = place.slot_at size label slot

-- four labels have 128 slots each
pub record IsSlot (label slot : ℕ) : Type 0 where
  pub is_label : label < 4
  pub in_ring : slot < 128

-- the slot of this number, which begins at this byte, shows the uberblock
pub record Shows (held : ℕ → Option ℕ) (place slot : ℕ) (u : Uberblock) : Type 0 where
  pub fits : Fits u
  pub number : slot ≡ slot_number u.group
  pub bytes : (i : ℕ) → i < length (spelled u) → held (place + i) ≡ slice_get (spelled u) i

-- The first has a lower claim, or more than two groups less: no open comes to it that goes back from the second, or from one that is higher.
abbrev pub IsOutOfReach : Uberblock → Uberblock → Type 0
IsOutOfReach first second = (first.claim < second.claim) ⊎ ((first.claim ≡ second.claim) × (first.group + 2 < second.group))

-- What a stop tears in the slots of the disks in use doesn't read as an uberblock by chance: one that the images show stood in its
-- slot at the last flush, or was written there since.
abbrev pub AreUntorn : List Bool → List (List ℕ) → List JointCall → List (List ℕ) → Type 0
AreUntorn out starts calls images =
    (which label : ℕ) (u : Uberblock) → InUse out which → label < 4 → Fits u
    → IsUntorn starts calls images which (slot_at (length (bytes_of starts which)) label (slot_number u.group)) (spelled u)

-- the byte is in none of a disk's four labels
abbrev pub IsOffLabels : ℕ → ℕ → Type 0
IsOffLabels size i = (label : ℕ) → label < 4 → (i < label_at size label) ⊎ (label_at size label + 262144 ≤ i)
