-- What a scan of disks tells, and that it is what they hold.
use Rattle.std.specs.Prelude.{◌≡◌, ◌↔◌, ◌⊎◌, ◌≤◌, ◌<◌, ℕ, zero, suc, ◌+◌, if◌then◌else◌, List, [], ◌∷◌, ◌++◌, length, map, slice_get, Option, Some, None, All, Contains, IsTrue, Result, Ok, Err, Vec}
use Rattle.std.specs.declared.alloc.AllocError.{AllocError}
use Rattle.std.specs.declared.alloc.Global.{Global}
use Rattle.model_disk.specs.Call.{FailedRead}
use Rattle.model_disk.specs.Joint.{JointCall, Disks, on, bytes_of, content, AreHonestSince}
use Rattle.vdev_label.specs.Area.{IsBreach}
use Rattle.vdev_label.specs.Plain.{PlainLabel, label_view}
use Rattle.vdev_label.specs.declared.refusal.Breach.{Breach}
use Rattle.uberblock_ring.specs.Place.{nth_slot_at}
use Rattle.uberblock_ring.specs.Ranking.{Has}
use Rattle.uberblock_ring.specs.Uberblock.{Fits}
use Rattle.uberblock_ring.specs.declared.uberblock.Uberblock.{Uberblock}
use Rattle.pool_slots.specs.Failures.{HasFailedOn}
use Rattle.pool_slots.specs.Labels.{IsLabelShown, IsValid, area_place}
use Rattle.pool_slots.specs.Opens.{IsKnown, IsReadOn, IsShownOn}
use Rattle.pool_labels.specs.Choices.{AreSound, IsValidReading}
use Rattle.pool_labels.specs.Sizes.{IsAllowedSize, is_allowed_size}
use Rattle.pool_labels.specs.declared.scanned.Reading.{Reading}
use Rattle.pool_labels.specs.declared.scanned.Reading.TheVariants.{Valid, Bad, Unreadable}
use Rattle.pool_labels.specs.declared.scanned.DiskScan.{DiskScan}
use Rattle.pool_labels.specs.declared.scanned.Scan.{Scan}
use Rattle.pool_labels.specs.declared.scanned.ScannedDisk.{ScannedDisk}
use Rattle.pool_labels.specs.declared.scanned.ScannedLabel.{ScannedLabel}

-- at most so many calls were made since
abbrev pub MakesAtMost : ℕ → Disks → Disks → Type 0
MakesAtMost n old new = length new.calls ≤ length old.calls + n

-- ---- labels

-- the area of a label on a disk of this size is no label's, for this cause
pub record IsBroken (size : ℕ) (held : ℕ → Option ℕ) (number : ℕ) (it : Breach) : Type 0 where
  pub area : List ℕ
  pub len : length area ≡ 114688
  pub bytes : (i : ℕ) → i < 114688 → held (area_place size number + i) ≡ slice_get area i
  pub breach : IsBreach area it
  pub none : (l : PlainLabel) → ¬ IsLabelShown size held number l

-- the label of this number shows that, and nothing else
abbrev pub IsReadingOf : ℕ → (ℕ → Option ℕ) → ℕ → Reading → Type 0
IsReadingOf size held number (Valid label) =
    IsLabelShown size held number (label_view label) × ((l : PlainLabel) → IsLabelShown size held number l → l ≡ label_view label)
IsReadingOf size held number (Bad it) = IsBroken size held number it
IsReadingOf size held number Unreadable = Unit {0}

-- that call was made since the old moment
pub record HasMade (old new : Disks) (made : JointCall) : Type 0 where
  pub newer : List JointCall
  pub calls : new.calls ≡ newer ++ old.calls
  pub has : Contains newer made

-- a read label has an area, and the read of one that couldn't be read failed
abbrev pub IsSoundReading : Disks → Disks → ℕ → ℕ → Reading → Type 0
IsSoundReading old new which number (Valid label) = IsValid (label_view label)
IsSoundReading old new which number (Bad it) = Unit {0}
IsSoundReading old new which number Unreadable = HasMade old new (on which (FailedRead (area_place (length (bytes_of old.starts which)) number) 114688))

-- what was read of a label is what the disk holds there, where its answers were true
pub record IsScannedLabel (old new : Disks) (s : ScannedLabel) : Type 0 where
  pub is_label : s.number < 4
  pub sound : IsSoundReading old new s.disk s.number s.reading
  pub says : IsKnown old s.disk → AreHonestSince (length old.calls) new.starts new.calls
      → IsReadingOf (length (bytes_of old.starts s.disk)) (content old s.disk) s.number s.reading

-- where a scanned label lies: the number of its disk, and its own on that disk
abbrev pub place_of : ScannedLabel → ℕ × ℕ
place_of s = (s.disk, s.number)

-- the four labels of a disk
abbrev pub four_of : ℕ → List (ℕ × ℕ)
four_of which = (which, 0) ∷ (which, 1) ∷ (which, 2) ∷ (which, 3) ∷ []

-- those of the first so many disks, where the size is allowed
abbrev pub places_to : List (List ℕ) → ℕ → List (ℕ × ℕ)
places_to starts zero = []
places_to starts (suc n) = places_to starts n ++ (if is_allowed_size (length (bytes_of starts n)) then four_of n else [])

-- it is a valid label of the disk
abbrev pub IsValidOf : ℕ → ScannedLabel → Type 0
IsValidOf which s = (s.disk ≡ which) × IsValidReading s.reading

-- a label of the disk is valid
pub record IsLabeled (labels : List ScannedLabel) (which : ℕ) : Type 0 where
  pub s : ScannedLabel
  pub has : Contains labels s
  pub valid : IsValidOf which s

-- ---- slots

-- the read of a slot of the disk failed
pub record IsSlotLost (old new : Disks) (which : ℕ) : Type 0 where
  pub number : ℕ
  pub is_slot : number < 512
  pub made : HasMade old new (on which (FailedRead (nth_slot_at (length (bytes_of old.starts which)) number) 1024))

-- what was read of a slot is what a disk with a valid label shows
pub record IsScannedSlot (old new : Disks) (labels : List ScannedLabel) (u : Uberblock) : Type 0 where
  pub fits : Fits u
  pub which : ℕ
  pub labeled : IsLabeled labels which
  pub says : IsKnown old which → AreHonestSince (length old.calls) new.starts new.calls → IsReadOn (length (bytes_of old.starts which)) (content old which) u

-- all that the slots of the disk show was read
abbrev pub HasAllSlots : Disks → Disks → List (Option Uberblock) → ℕ → Type 0
HasAllSlots old new slots which =
    IsKnown old which → AreHonestSince (length old.calls) new.starts new.calls → (u : Uberblock) → IsShownOn (length (bytes_of old.starts which)) (content old which) u
    → (i : ℕ) × Has slots i u

-- of each disk with a valid label, but where a slot couldn't be read
pub record AreScannedSlots (old new : Disks) (labels : List ScannedLabel) (slots : List (Option Uberblock)) : Type 0 where
  pub each : (i : ℕ) (u : Uberblock) → Has slots i u → IsScannedSlot old new labels u
  pub all : (which : ℕ) → IsLabeled labels which → IsSlotLost old new which ⊎ HasAllSlots old new slots which

-- ---- disks

-- what a scan tells of a disk: its size in bytes, and whether a call on it failed
pub record IsScannedDisk (old new : Disks) (which : ℕ) (d : ScannedDisk) : Type 0 where
  pub size : d.size ≡ length (bytes_of old.starts which)
  pub failed : IsTrue d.failed ↔ HasFailedOn old new which

-- each scanned disk has the size of its disk in bytes, and says whether a call on it failed
abbrev pub AreScannedDisks : Disks → Disks → List ScannedDisk → Type 0
AreScannedDisks old new disks = (which : ℕ) (d : ScannedDisk) → slice_get disks which ≡ Some d → IsScannedDisk old new which d

-- disks of an allowed size
abbrev pub has_allowed_size : Disks → ℕ → Type 0
has_allowed_size disks which = IsAllowedSize (length (bytes_of disks.starts which))

-- this disk, if its size is allowed
abbrev pub is_allowed_disk : Disks → ℕ → ℕ → Type 0
is_allowed_disk disks disk which = (which ≡ disk) × has_allowed_size disks disk

-- any disk, where a clause asks on which disks reads may have failed
abbrev pub anywhere : ℕ → Type 0
anywhere which = Unit {0}

-- Each disk; the labels of those of an allowed size, in order; and the slots of those with a valid label.
pub record IsScanOf (old new : Disks) (scan : Scan) : Type 0 where
  pub count : length scan.disks.items ≡ length old.starts
  pub disks : AreScannedDisks old new scan.disks.items
  pub places : map place_of scan.labels.items ≡ places_to old.starts (length old.starts)
  pub labels : All (IsScannedLabel old new) scan.labels.items
  pub sound : AreSound scan.labels.items
  pub slots : AreScannedSlots old new scan.labels.items scan.slots.items

-- ---- of one disk

-- a label couldn't be read
pub record HasUnreadable (labels : List ScannedLabel) : Type 0 where
  pub s : ScannedLabel
  pub has : Contains labels s
  pub unread : s.reading ≡ Unreadable

-- what one label shows; where its read failed it says so
abbrev pub IsUnread : Result ScannedLabel AllocError → ℕ → Type 0
IsUnread (Ok s) which = s.reading ≡ Unreadable
IsUnread (Err e) which = Unit {0}

-- what a scan tells of the label of this number on this disk
abbrev pub ScansLabel : Disks → Disks → ℕ → ℕ → ScannedLabel → Type 0
ScansLabel old new which number s = (s.disk ≡ which) × (s.number ≡ number) × IsScannedLabel old new s

-- the four of a disk
abbrev pub ScansFour : Disks → Disks → ℕ → Vec ScannedLabel Global → Type 0
ScansFour old new which labels =
    (map place_of labels.items ≡ four_of which) × All (λ s. s.disk ≡ which) labels.items × All (IsScannedLabel old new) labels.items

-- its slots, or that one of them couldn't be read
abbrev pub AreLost : Result (Option (Vec (Option Uberblock) Global)) AllocError → ℕ → Type 0
AreLost (Ok (Some slots)) which = ⊥
AreLost (Ok None) which = Unit {0}
AreLost (Err e) which = Unit {0}

-- what the slots of a disk show, all of it and nothing else, where its answers were true
pub record AreReadSlots (old new : Disks) (which : ℕ) (slots : List (Option Uberblock)) : Type 0 where
  pub fits : (i : ℕ) (u : Uberblock) → Has slots i u → Fits u
  pub each : (i : ℕ) (u : Uberblock) → Has slots i u → IsKnown old which → AreHonestSince (length old.calls) new.starts new.calls
      → IsReadOn (length (bytes_of old.starts which)) (content old which) u
  pub all : HasAllSlots old new slots which

-- what the slots of a disk show, or that the read of one failed
abbrev pub ScansSlots : Disks → Disks → ℕ → Option (Vec (Option Uberblock) Global) → Type 0
ScansSlots old new which (Some slots) = AreReadSlots old new which slots.items
ScansSlots old new which None = IsSlotLost old new which

-- where a label of the disk is valid
abbrev pub ScansSlotsOf : List ScannedLabel → Disks → Disks → ℕ → Option (Vec (Option Uberblock) Global) → Type 0
ScansSlotsOf labels old new which (Some slots) = (IsLabeled labels which × AreReadSlots old new which slots.items) ⊎ ((¬ IsLabeled labels which) × (slots.items ≡ []))
ScansSlotsOf labels old new which None = IsLabeled labels which × IsSlotLost old new which

-- those that were read, or none
abbrev pub AreSlotsOf : Option (Vec (Option Uberblock) Global) → List (Option Uberblock) → Type 0
AreSlotsOf (Some slots) all = all ≡ slots.items
AreSlotsOf None all = all ≡ []

-- all of a disk
pub record IsDiskScan (old new : Disks) (which : ℕ) (it : DiskScan) : Type 0 where
  pub disk : IsScannedDisk old new which it.disk
  pub places : map place_of it.labels.items ≡ (if is_allowed_size (length (bytes_of old.starts which)) then four_of which else [])
  pub labels : All (IsScannedLabel old new) it.labels.items
  pub slots : AreScannedSlots old new it.labels.items it.slots.items
