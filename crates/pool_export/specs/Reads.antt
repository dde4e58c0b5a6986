-- What reads of labels tell, before anything is written.
use Rattle.std.specs.Prelude.{◌≡◌, ◌⊎◌, ◌<◌, ℕ, Bool, List, length, Option, Some, None, Result, Ok, Err, Vec}
use Rattle.std.specs.declared.alloc.Global.{Global}
use Rattle.model_disk.specs.Joint.{Disks, bytes_of, content, AreHonestSince}
use Rattle.uberblock_ring.specs.declared.uberblock.Uberblock.{Uberblock}
use Rattle.vdev_label.specs.Plain.{PlainLabel, label_view}
use Rattle.vdev_label.specs.declared.label.Label.{Label}
use Rattle.vdev_label.specs.declared.refusal.Refusal.{Refusal as LabelRefusal}
use Rattle.vdev_label.specs.declared.refusal.Refusal.TheVariants as label
use Rattle.pool_slots.specs.Configs.{of_config}
use Rattle.pool_slots.specs.Failures.{HasFailedOn}
use Rattle.pool_slots.specs.Labels.{IsLabelShown, IsValid, IsWithout}
use Rattle.pool_slots.specs.Opens.{IsKnown}
use Rattle.pool_slots.specs.Present.{is_out}
use Rattle.pool_slots.specs.Slots.{InUse}
use Rattle.pool_export.specs.Taken.{IsMadeOf, IsTaken}
use Rattle.pool_export.specs.Writes.{Areas, AreasFit, AreasOn, IsAreaOf, IsPutAway}
use Rattle.pool_export.specs.declared.refusal.Refusal.{Refusal}
use Rattle.pool_export.specs.declared.refusal.Refusal.TheVariants as refused
use Rattle.pool_export.specs.declared.unread.Unread.{Unread}
use Rattle.pool_export.specs.declared.unread.Unread.TheVariants.{NoMemory, DiskFault, NoLabel}

-- ---- one label

-- there is no best label so far, or its claim is less
abbrev pub IsAbove : Option Label → ℕ → Type 0
IsAbove best claim = (it : Label) → best ≡ Some it → it.claim < claim

-- the label has the configuration, and a greater claim than the best one so far
pub record IsBetter (digest : List ℕ) (best : Option Label) (l : PlainLabel) : Type 0 where
  pub config : of_config digest l
  pub above : IsAbove best l.claim

-- the better one of the best one so far and a label
abbrev pub IsBetterOf : List ℕ → Option Label → Label → Option Label → Type 0
IsBetterOf digest best label it = (IsBetter digest best (label_view label) × (it ≡ Some label)) ⊎ ((¬ IsBetter digest best (label_view label)) × (it ≡ best))

-- why a label of a disk is not read: an invalid one shows nothing, and the best one so far stays
abbrev pub unread_as : ℕ → Option Label → LabelRefusal → Result (Option Label) Unread
unread_as which best label.NoMemory = Err NoMemory
unread_as which best label.DiskFault = Err (DiskFault which)
unread_as which best (label.BadLabel it) = Ok best

-- ---- what a disk showed, where its answers are true

-- it was so of the disk, if its bytes were known and the answers since were true
abbrev pub IsToldOf : Disks → Disks → ℕ → (ℕ → (ℕ → Option ℕ) → Type 0) → Type 0
IsToldOf old new which P = IsKnown old which → AreHonestSince (length old.calls) new.starts new.calls → P (length (bytes_of old.starts which)) (content old which)

-- the label of this number shows it
abbrev pub shows_label : ℕ → PlainLabel → ℕ → (ℕ → Option ℕ) → Type 0
shows_label number l size held = IsLabelShown size held number l

-- it shows none that is better
abbrev pub shows_no_better : ℕ → List ℕ → Option Label → ℕ → (ℕ → Option ℕ) → Type 0
shows_no_better number digest best size held = (l : PlainLabel) → IsLabelShown size held number l → ¬ IsBetter digest best l

-- no label shows the configuration
abbrev pub shows_none : List ℕ → ℕ → (ℕ → Option ℕ) → Type 0
shows_none digest size held = IsWithout size held digest

-- this is the label that is taken
abbrev pub takes : List ℕ → PlainLabel → ℕ → (ℕ → Option ℕ) → Type 0
takes digest l size held = (number : ℕ) × IsTaken size held digest number l

-- the label was taken in place of the best one so far
pub record TakesOver (digest : List ℕ) (best it : Option Label) (old new : Disks) (which number : ℕ) : Type 0 where
  pub label : Label
  pub is : it ≡ Some label
  pub valid : IsValid (label_view label)
  pub better : IsBetter digest best (label_view label)
  pub told : IsToldOf old new which (shows_label number (label_view label))

-- the best one so far stayed
pub record StaysBest (digest : List ℕ) (best it : Option Label) (old new : Disks) (which number : ℕ) : Type 0 where
  pub same : it ≡ best
  pub told : IsToldOf old new which (shows_no_better number digest best)

-- what the label of this number makes of the best one so far; else want of memory, or a call that failed
abbrev pub ReadsBetter : List ℕ → Option Label → Disks → Disks → ℕ → ℕ → Result (Option Label) Unread → Type 0
ReadsBetter digest best old new which number (Ok it) = TakesOver digest best it old new which number ⊎ StaysBest digest best it old new which number
ReadsBetter digest best old new which number (Err NoMemory) = Unit {0}
ReadsBetter digest best old new which number (Err (DiskFault disk)) = HasFailedOn old new disk
ReadsBetter digest best old new which number (Err (NoLabel disk)) = ⊥

-- ---- one disk

-- the label that is taken, if one shows the configuration
abbrev pub ReadsBest : List ℕ → Disks → Disks → ℕ → Result (Option Label) Unread → Type 0
ReadsBest digest old new which (Ok None) = IsToldOf old new which (shows_none digest)
ReadsBest digest old new which (Ok (Some it)) = IsValid (label_view it) × of_config digest (label_view it) × IsToldOf old new which (takes digest (label_view it))
ReadsBest digest old new which (Err NoMemory) = Unit {0}
ReadsBest digest old new which (Err (DiskFault disk)) = HasFailedOn old new disk
ReadsBest digest old new which (Err (NoLabel disk)) = ⊥

-- the area that is to be written to the disk
abbrev pub ReadsArea : Uberblock → Disks → Disks → ℕ → Result (Vec ℕ Global) Unread → Type 0
ReadsArea u old new which (Ok area) = ((l : PlainLabel) × IsPutAway u l area.items) × IsToldOf old new which (IsMadeOf u area.items)
ReadsArea u old new which (Err NoMemory) = Unit {0}
ReadsArea u old new which (Err (DiskFault disk)) = HasFailedOn old new disk
ReadsArea u old new which (Err (NoLabel disk)) = (disk ≡ which) × IsToldOf old new which (shows_none u.config_digest)

-- the same where the disk may be out, or goes out: then there is none
abbrev pub ReadsIfUsed : List Bool → Uberblock → Disks → Disks → ℕ → Result (Option (Vec ℕ Global)) Refusal → Type 0
ReadsIfUsed later u old new which (Ok None) = is_out later which
ReadsIfUsed later u old new which (Ok (Some area)) = ReadsArea u old new which (Ok area)
ReadsIfUsed later u old new which (Err refused.NoMemory) = Unit {0}
ReadsIfUsed later u old new which (Err (refused.NoLabel disk)) = (disk ≡ which) × InUse later which × IsToldOf old new which (shows_none u.config_digest)
ReadsIfUsed later u old new which (Err refused.NoDisk) = ⊥

-- ---- all disks

-- each area is made of what its disk showed
abbrev pub AreToldOf : Uberblock → Disks → Disks → Areas → Type 0
AreToldOf u old new areas = (which : ℕ) (area : Vec ℕ Global) → IsAreaOf areas which area → IsToldOf old new which (IsMadeOf u area.items)

-- an area for each disk that is in use still; else want of memory, or a disk in use shows the
-- configuration in no label
abbrev pub ReadsAreas : List Bool → Uberblock → Disks → Disks → Result (Vec (Option (Vec ℕ Global)) Global) Refusal → Type 0
ReadsAreas later u old new (Ok all) = (length all.items ≡ length old.starts) × AreasOn later all.items × AreasFit u all.items × AreToldOf u old new all.items
ReadsAreas later u old new (Err refused.NoMemory) = Unit {0}
ReadsAreas later u old new (Err (refused.NoLabel disk)) = InUse later disk × IsToldOf old new disk (shows_none u.config_digest)
ReadsAreas later u old new (Err refused.NoDisk) = ⊥
