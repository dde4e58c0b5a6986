-- Configurations that labels show, at each moment of an open.
use Rattle.std.specs.Prelude.{◌≡◌, ◌⊎◌, ◌<◌, ℕ, Bool, List, length, slice_get, Option, Some}
use Rattle.sha2.specs.Sha256.{sha256}
use Rattle.model_disk.specs.Joint.{JointCall, Disks, bytes_of, content, AreHonestSince, MayLeaveAll}
use Rattle.model_disk.specs.Runs.{EachSince, Makes, no_write}
use Rattle.uberblock_ring.specs.declared.uberblock.Uberblock.{Uberblock}
use Rattle.vdev_label.specs.Config.{config_bytes}
use Rattle.vdev_label.specs.Plain.{PlainLabel}
use Rattle.pool_slots.specs.Labels.{IsLabelShown, IsValid, inscribed}
use Rattle.pool_slots.specs.Opens.{AreKnown, IsTakenFrom}
use Rattle.pool_slots.specs.Possible.{held_by}
use Rattle.pool_slots.specs.Slots.{AreSettled, InUse}
use Rattle.pool_slots.specs.declared.labeled.Area.{Area}

-- the label has the configuration of this digest
abbrev pub of_config : List ℕ → PlainLabel → Type 0
of_config digest l = sha256 (config_bytes l.vdevs) ≡ digest

-- some label of a disk of this size shows the configuration
pub record IsConfigured (size : ℕ) (held : ℕ → Option ℕ) (digest : List ℕ) : Type 0 where
  pub number : ℕ
  pub label : PlainLabel
  pub shown : IsLabelShown size held number label
  pub config : of_config digest label

-- whatever a stop now leaves shows it, on each of these disks
abbrev pub LeavesConfiguredOn : (ℕ → Type 0) → List (List ℕ) → List ℕ → List JointCall → Type 0
LeavesConfiguredOn used starts digest calls =
    (images : List (List ℕ)) → MayLeaveAll starts calls images → (which : ℕ) → used which → IsConfigured (length (bytes_of images which)) (held_by images which) digest

-- on each disk in use
abbrev pub LeavesConfigured : List Bool → List (List ℕ) → List ℕ → List JointCall → Type 0
LeavesConfigured out = LeavesConfiguredOn (InUse out)

-- the disk is in use, and shows it
abbrev pub ShowsConfig : List Bool → Disks → List ℕ → ℕ → Type 0
ShowsConfig out disks digest which = InUse out which × IsConfigured (length (bytes_of disks.starts which)) (content disks which) digest

-- The labels of the disk show four configurations, each another one.
pub record ShowsFour (size : ℕ) (held : ℕ → Option ℕ) : Type 0 where
  pub label : ℕ → PlainLabel
  pub shown : (number : ℕ) → number < 4 → IsLabelShown size held number (label number)
  pub apart : (a b : ℕ) → a < b → b < 4 → ¬ of_config (sha256 (config_bytes (label b).vdevs)) (label a)

-- no disk in use does
abbrev pub AreNotFour : List Bool → Disks → Type 0
AreNotFour out disks = (which : ℕ) → InUse out which → ¬ ShowsFour (length (bytes_of disks.starts which)) (content disks which)

-- Nothing is written; or a stop at any moment leaves a label with the configuration of what is claimed on each disk in use that has one.
abbrev pub OpenConfigures : List Bool → ℕ → Disks → Disks → Type 0
OpenConfigures out rewind old new =
    AreKnown out old → AreSettled out old.calls → AreNotFour out old → AreHonestSince (length old.calls) new.starts new.calls
    → Makes no_write old new ⊎ ((u : Uberblock) × IsTakenFrom out old rewind u × EachSince (length old.calls) (LeavesConfiguredOn (ShowsConfig out old u.config_digest) old.starts u.config_digest) new.calls)

-- ---- what a claim ensures

-- another label than this one has it
pub record IsBeside (size : ℕ) (held : ℕ → Option ℕ) (first : ℕ) (digest : List ℕ) : Type 0 where
  pub number : ℕ
  pub other : ¬ (number ≡ first)
  pub label : PlainLabel
  pub shown : IsLabelShown size held number label
  pub config : of_config digest label

-- it is the area of a label with it
pub record IsOfConfig (digest : List ℕ) (area : Area) : Type 0 where
  pub label : PlainLabel
  pub valid : IsValid label
  pub spells : area.bytes.items ≡ inscribed label
  pub config : of_config digest label

-- Each area has the configuration, and beside the claim label of each disk that shows it another does.
pub record MayConfigure (out : List Bool) (disks : Disks) (areas : List (Option Area)) (digest : List ℕ) : Type 0 where
  pub settled : AreSettled out disks.calls
  pub each : (which : ℕ) (area : Area) → slice_get areas which ≡ Some (Some area) → IsOfConfig digest area
  pub beside : (which : ℕ) (area : Area) → ShowsConfig out disks digest which → slice_get areas which ≡ Some (Some area) → IsBeside (length (bytes_of disks.starts which)) (content disks which) area.first digest

-- Where all areas have a configuration, and each disk that shows it does so beside its claim label too,
-- a stop at any moment of the claim leaves it in some label of each such disk.
abbrev pub ClaimConfigures : List Bool → Disks → List (Option Area) → Disks → Type 0
ClaimConfigures out old areas new = (digest : List ℕ) → MayConfigure out old areas digest → EachSince (length old.calls) (LeavesConfiguredOn (ShowsConfig out old digest) old.starts digest) new.calls
