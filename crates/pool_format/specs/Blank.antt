-- Disks that show no pool.
use Rattle.std.specs.Prelude.{◌⊎◌, ◌<◌, ℕ, Bool, true, false, length, Option, Result, Ok, Err}
use Rattle.model_disk.specs.Joint.{Disks, bytes_of, content, AreHonestSince}
use Rattle.uberblock_ring.specs.declared.uberblock.Uberblock.{Uberblock}
use Rattle.vdev_label.specs.Plain.{PlainLabel}
use Rattle.vdev_label.specs.declared.refusal.Refusal.{Refusal as LabelRefusal}
use Rattle.vdev_label.specs.declared.refusal.Refusal.TheVariants as label
use Rattle.pool_slots.specs.Failures.{HasFailedOn}
use Rattle.pool_slots.specs.Labels.{IsLabelShown}
use Rattle.pool_slots.specs.Opens.{IsKnown, IsShownOn}
use Rattle.pool_format.specs.declared.refusal.Refusal.{Refusal}
use Rattle.pool_format.specs.declared.refusal.Refusal.TheVariants.{NoMemory, DiskFault}

-- ---- what a disk of this size shows

-- the label of this number shows something
abbrev pub ShowsLabel : ℕ → ℕ → (ℕ → Option ℕ) → Type 0
ShowsLabel number size held = (l : PlainLabel) × IsLabelShown size held number l

-- one of its labels does
abbrev pub ShowsLabels : ℕ → (ℕ → Option ℕ) → Type 0
ShowsLabels size held = (number : ℕ) × ShowsLabel number size held

-- one of its slots does
abbrev pub ShowsSlots : ℕ → (ℕ → Option ℕ) → Type 0
ShowsSlots size held = (u : Uberblock) × IsShownOn size held u

-- a label or a slot
abbrev pub ShowsPool : ℕ → (ℕ → Option ℕ) → Type 0
ShowsPool size held = ShowsLabels size held ⊎ ShowsSlots size held

-- ---- what is told of it

-- the disk of this number has P, if its bytes were known and the answers since were true
abbrev pub IsToldOf : (ℕ → (ℕ → Option ℕ) → Type 0) → Disks → Disks → ℕ → Type 0
IsToldOf P old new which =
    IsKnown old which → AreHonestSince (length old.calls) new.starts new.calls → P (length (bytes_of old.starts which)) (content old which)

-- the disk doesn't have P
abbrev pub isnt : (ℕ → (ℕ → Option ℕ) → Type 0) → ℕ → (ℕ → Option ℕ) → Type 0
isnt P size held = ¬ P size held

-- want of memory, or a call that failed on the disk that is named
abbrev pub HasCause : Disks → Disks → Refusal → Type 0
HasCause old new NoMemory = Unit {0}
HasCause old new (DiskFault disk) = HasFailedOn old new disk

-- whether the disk has P, or why that isn't known
abbrev pub TellsWhether : (ℕ → (ℕ → Option ℕ) → Type 0) → Disks → Disks → ℕ → Result Bool Refusal → Type 0
TellsWhether P old new which (Ok true) = IsToldOf P old new which
TellsWhether P old new which (Ok false) = IsToldOf (isnt P) old new which
TellsWhether P old new which (Err refusal) = HasCause old new refusal

-- a reason not to read a label of a disk: where the label isn't valid it shows nothing
abbrev pub unread_as : ℕ → LabelRefusal → Result Bool Refusal
unread_as which label.NoMemory = Err NoMemory
unread_as which label.DiskFault = Err (DiskFault which)
unread_as which (label.BadLabel it) = Ok false

-- one of the disks
abbrev pub is_there : Disks → ℕ → Type 0
is_there disks which = which < length disks.starts

-- whether no disk shows a label or a slot
abbrev pub TellsBlank : Disks → Disks → Result Bool Refusal → Type 0
TellsBlank old new (Ok true) = (which : ℕ) → is_there old which → IsToldOf (isnt ShowsPool) old new which
TellsBlank old new (Ok false) = (which : ℕ) × is_there old which × IsToldOf ShowsPool old new which
TellsBlank old new (Err refusal) = HasCause old new refusal
