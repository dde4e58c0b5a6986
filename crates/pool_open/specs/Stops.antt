-- Disks that a stop leaves.
use Rattle.std.specs.Prelude.{ℕ, [], Bool, List}
use Rattle.model_disk.specs.Joint.{Disks}
use Rattle.pool_slots.specs.Commits.{AreOffLabels}
use Rattle.pool_slots.specs.Opens.{CanOpen}
use Rattle.pool_slots.specs.Possible.{Possible, Trees, Leads, held_by}
use Rattle.pool_slots.specs.Slots.{AreThere, InUse}

-- disks that hold these bytes, and weren't called yet
abbrev pub fresh : List (List ℕ) → Disks
fresh images = record { starts = images; calls = [] }

-- Images of disks that lead to possible uberblocks may be opened, where a disk is in use.
abbrev pub StoppedCanBeOpened : Type 0
StoppedCanBeOpened =
    (trees : Trees) (out : List Bool) (p : Possible) (images : List (List ℕ)) → (which : ℕ) × InUse out which → AreThere out images → AreOffLabels trees out images
    → Leads trees out images (held_by images) p → CanOpen trees out (fresh images) p
