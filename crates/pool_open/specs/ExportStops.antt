-- Disks that a stop in an export leaves, or one after it.
use Rattle.std.specs.Prelude.{ℕ, ◌≤◌, Bool, List, length}
use Rattle.model_disk.specs.Joint.{Disks, JointCall, MayLeaveAll, bytes_of}
use Rattle.model_disk.specs.Runs.{IsMoment}
use Rattle.pool_export.specs.Moments.{ExportConfigures, ExportLeads, ExportMarks, HaveEven, IsLeading, of_claim_from}
use Rattle.pool_slots.specs.Configs.{IsConfigured, of_config}
use Rattle.pool_slots.specs.Marks.{AreMarked}
use Rattle.pool_slots.specs.Opens.{CanOpen}
use Rattle.pool_slots.specs.Possible.{Possible, Trees, held_by}
use Rattle.pool_slots.specs.Slots.{AreThere, AreUntorn, InUse}
use Rattle.uberblock_ring.specs.declared.uberblock.Uberblock.{Uberblock}
use Rattle.pool_open.specs.Stops.{fresh}

-- Disks that an export begins with: some are in use, and these lead to possible uberblocks. Of each label 0 or label 2 shows the configuration,
-- and one of them a claim that is no less than this one, which the uberblock has too.
pub record MayStop (trees : Trees) (out : List Bool) (p : Possible) (u : Uberblock) (claim : ℕ) (old : Disks) : Type 0 where
  pub some : (which : ℕ) × InUse out which
  pub there : AreThere out old.starts
  pub leading : IsLeading trees out old p
  pub configured : HaveEven (of_config u.config_digest) out old
  pub marked : HaveEven (of_claim_from claim) out old
  pub no_less : claim ≤ u.claim

-- these images may be opened, and come to what the disks led to before; each still shows the configuration, and no less a claim
pub record MayBeReopened (trees : Trees) (out : List Bool) (p : Possible) (u : Uberblock) (claim : ℕ) (images : List (List ℕ)) : Type 0 where
  pub opens : CanOpen trees out (fresh images) p
  pub configured : (which : ℕ) → InUse out which → IsConfigured (length (bytes_of images which)) (held_by images which) u.config_digest
  pub marked : AreMarked out images (held_by images) claim

-- Wherever an export is stopped, inside a device call too, and once it is done: what that leaves may be opened.
abbrev pub ExportsMayBeReopened : Type 0
ExportsMayBeReopened =
    (trees : Trees) (out : List Bool) (p : Possible) (u : Uberblock) (claim : ℕ) (old new : Disks) (earlier : List JointCall) (images : List (List ℕ))
    → MayStop trees out p u claim old → ExportLeads out old new → ExportConfigures out old u new → ExportMarks out old u new
    → IsMoment (length old.calls) new.calls earlier → MayLeaveAll old.starts earlier images → AreUntorn out old.starts earlier images
    → MayBeReopened trees out p u claim images
