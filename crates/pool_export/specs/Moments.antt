-- What a stop leaves at each moment of an export.
use Rattle.std.specs.Prelude.{◌≡◌, ◌≤◌, ℕ, Bool, List, length, Option, Vec}
use Rattle.std.specs.declared.alloc.Global.{Global}
use Rattle.model_disk.specs.Joint.{Disks, bytes_of, content}
use Rattle.model_disk.specs.Runs.{EachSince}
use Rattle.uberblock_ring.specs.declared.uberblock.Uberblock.{Uberblock}
use Rattle.vdev_label.specs.Plain.{PlainLabel}
use Rattle.pool_slots.specs.Commits.{AreAt, AreOffLabels, LeadAlways}
use Rattle.pool_slots.specs.Configs.{LeavesConfigured, of_config}
use Rattle.pool_slots.specs.Labels.{IsLabelShown, IsValid, inscribed}
use Rattle.pool_slots.specs.Marks.{MarkedAlways}
use Rattle.pool_slots.specs.Possible.{Leads, Possible, Trees}
use Rattle.pool_slots.specs.Slots.{AreSettled, InUse}
use Rattle.pool_slots.specs.Writes.{InHalf}
use Rattle.pool_export.specs.Writes.{Areas, IsAreaOf}

-- ---- slots

-- nothing is unflushed, the disks in use lead to one of the possible uberblocks, and no tree has a byte of a label
pub record IsLeading (trees : Trees) (out : List Bool) (disks : Disks) (p : Possible) : Type 0 where
  pub off_labels : AreOffLabels trees out disks.starts
  pub settled : AreSettled out disks.calls
  pub leads : Leads trees out disks.starts (content disks) p

-- a stop at any moment leaves disks that lead where they led before
abbrev pub ExportLeads : List Bool → Disks → Disks → Type 0
ExportLeads out old new = (trees : Trees) (p : Possible) → IsLeading trees out old p → LeadAlways trees out old new p

-- what was committed still is, with nothing unflushed
abbrev pub ExportKeeps : List Bool → Disks → Disks → Type 0
ExportKeeps out old new =
    (trees : Trees) (u : Uberblock) (before : List Uberblock) → AreOffLabels trees out old.starts → AreAt trees out old u before → AreAt trees out new u before

-- ---- labels

-- label 0 or label 2 of a disk of this size shows what has P
pub record HasEven (P : PlainLabel → Type 0) (size : ℕ) (held : ℕ → Option ℕ) : Type 0 where
  pub number : ℕ
  pub even : InHalf 0 number
  pub label : PlainLabel
  pub shown : IsLabelShown size held number label
  pub has : P label

-- each disk in use does, flushed
pub record HaveEven (P : PlainLabel → Type 0) (out : List Bool) (disks : Disks) : Type 0 where
  pub settled : AreSettled out disks.calls
  pub each : (which : ℕ) → InUse out which → HasEven P (length (bytes_of disks.starts which)) (content disks which)

-- the label has a claim that is no less
abbrev pub of_claim_from : ℕ → PlainLabel → Type 0
of_claim_from claim l = claim ≤ l.claim

-- Where an even label of each disk in use shows the configuration, some label does at any moment.
abbrev pub ExportConfigures : List Bool → Disks → Uberblock → Disks → Type 0
ExportConfigures out old u new = HaveEven (of_config u.config_digest) out old → EachSince (length old.calls) (LeavesConfigured out old.starts u.config_digest) new.calls

-- Where an even label of each shows a claim no less than this one, and the uberblock has no less, some label does at any moment.
abbrev pub ExportMarks : List Bool → Disks → Uberblock → Disks → Type 0
ExportMarks out old u new = (claim : ℕ) → claim ≤ u.claim → HaveEven (of_claim_from claim) out old → MarkedAlways out old new claim

-- ---- what the writes ensure

-- these bytes spell a label that has P
pub record Spells (P : PlainLabel → Type 0) (bytes : List ℕ) : Type 0 where
  pub label : PlainLabel
  pub valid : IsValid label
  pub spells : bytes ≡ inscribed label
  pub has : P label

-- each disk's area spells a label that has P
abbrev pub AllSpell : (PlainLabel → Type 0) → Areas → Type 0
AllSpell P areas = (which : ℕ) (area : Vec ℕ Global) → IsAreaOf areas which area → Spells P area.items

-- where an even label of each disk in use shows a configuration, and all areas have it, some label of each
-- does at any moment
abbrev pub WritesConfigure : List Bool → Disks → Areas → Disks → Type 0
WritesConfigure out old areas new =
    (digest : List ℕ) → HaveEven (of_config digest) out old → AllSpell (of_config digest) areas → EachSince (length old.calls) (LeavesConfigured out old.starts digest) new.calls

-- where an even label of each disk in use shows a claim no less than this one, and all areas have such a
-- claim, some label of each does at any moment
abbrev pub WritesMark : List Bool → Disks → Areas → Disks → Type 0
WritesMark out old areas new = (claim : ℕ) → HaveEven (of_claim_from claim) out old → AllSpell (of_claim_from claim) areas → MarkedAlways out old new claim
