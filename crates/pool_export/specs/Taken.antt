-- Which label of a disk is taken, and what the disk's labels show then.
use Rattle.std.specs.Prelude.{◌≡◌, ◌≤◌, ◌<◌, ℕ, Bool, List, length, Option}
use Rattle.model_disk.specs.Joint.{Disks, bytes_of, content, AreHonestSince}
use Rattle.model_disk.specs.Runs.{Makes}
use Rattle.uberblock_ring.specs.declared.uberblock.Uberblock.{Uberblock}
use Rattle.vdev_label.specs.Plain.{PlainLabel}
use Rattle.vdev_label.specs.Room.{relabeled}
use Rattle.vdev_label.specs.declared.label.State.TheVariants.{Exported}
use Rattle.pool_slots.specs.Configs.{of_config}
use Rattle.pool_slots.specs.Labels.{IsLabelShown, area_place, inscribed}
use Rattle.pool_slots.specs.Opens.{AreKnown}
use Rattle.pool_slots.specs.Slots.{InUse}

-- On a disk of this size: of the labels that show the configuration this one has the greatest claim, and the lowest number of several.
pub record IsTaken (size : ℕ) (held : ℕ → Option ℕ) (digest : List ℕ) (number : ℕ) (l : PlainLabel) : Type 0 where
  pub shown : IsLabelShown size held number l
  pub config : of_config digest l
  pub greatest : (other : ℕ) (m : PlainLabel) → IsLabelShown size held other m → of_config digest m → (m.claim ≤ l.claim) × (other < number → m.claim < l.claim)

-- a label as it is put away: exported, with the uberblock's claim and group
abbrev pub exported : PlainLabel → Uberblock → PlainLabel
exported l u = relabeled l u.claim u.group Exported

-- ---- what is written

-- these bytes spell the label that is taken, put away
pub record IsMadeOf (u : Uberblock) (bytes : List ℕ) (size : ℕ) (held : ℕ → Option ℕ) : Type 0 where
  pub number : ℕ
  pub label : PlainLabel
  pub taken : IsTaken size held u.config_digest number label
  pub spells : bytes ≡ inscribed (exported label u)

-- in a label of their disk
pub record IsTakenWrite (disks : Disks) (u : Uberblock) (which at : ℕ) (bytes : List ℕ) : Type 0 where
  pub number : ℕ
  pub is_label : number < 4
  pub place : at ≡ area_place (length (bytes_of disks.starts which)) number
  pub made : IsMadeOf u bytes (length (bytes_of disks.starts which)) (content disks which)

-- nothing else is written
abbrev pub ExportTakes : List Bool → Disks → Uberblock → Disks → Type 0
ExportTakes out old u new = AreKnown out old → AreHonestSince (length old.calls) new.starts new.calls → Makes (IsTakenWrite old u) old new

-- ---- what is shown

-- Each label of the disk now shows the one that was taken, put away.
pub record IsExported (old : Disks) (u : Uberblock) (new : Disks) (which : ℕ) : Type 0 where
  pub number : ℕ
  pub label : PlainLabel
  pub taken : IsTaken (length (bytes_of old.starts which)) (content old which) u.config_digest number label
  pub each : (other : ℕ) → other < 4 → IsLabelShown (length (bytes_of new.starts which)) (content new which) other (exported label u)

-- on the disks in use
abbrev pub AreExported : List Bool → Disks → Uberblock → Disks → Type 0
AreExported out old u new = AreKnown out old → AreHonestSince (length old.calls) new.starts new.calls → (which : ℕ) → InUse out which → IsExported old u new which
