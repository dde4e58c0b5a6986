-- Commits: what they start from, and what they leave.
use Rattle.std.specs.Prelude.{◌≡◌, ℕ, suc, Bool, List, [], ◌∷◌, length, Some}
use Rattle.model_disk.specs.Joint.{Disks, bytes_of, content}
use Rattle.model_disk.specs.Runs.{EachSince}
use Rattle.block_pointer.specs.declared.block.Block.{Block}
use Rattle.uberblock_ring.specs.declared.uberblock.Uberblock.{Uberblock}
use Rattle.uberblock_ring.specs.Uberblock.{Fits}
use Rattle.pool_slots.specs.Slots.{InUse, AreThere, AreSettled, IsOffLabels}
use Rattle.pool_slots.specs.Possible.{Possible, Trees, Leads, LeavesLeading}

-- no tree has a byte of a label
abbrev pub AreOffLabels : Trees → List Bool → List (List ℕ) → Type 0
AreOffLabels trees out starts =
    (root : Block) (which i value : ℕ) → InUse out which → trees root which i ≡ Some value → IsOffLabels (length (bytes_of starts which)) i

-- the next group under the same claim
abbrev pub IsNextGroup : Uberblock → Uberblock → Type 0
IsNextGroup last u = (u.claim ≡ last.claim) × (u.group ≡ suc last.group)

-- it alone, after these
abbrev pub only_last : Uberblock → List Uberblock → Possible
only_last u before = record { last = u; begun = []; before = before }

-- the last uberblock, or this one, which was begun since
abbrev pub last_or : Uberblock → List Uberblock → Uberblock → Possible
last_or last before u = record { last = last; begun = u ∷ []; before = before }

-- the uberblock is committed after these: nothing is unflushed, and all disks in use lead to it alone
pub record AreAt (trees : Trees) (out : List Bool) (disks : Disks) (u : Uberblock) (before : List Uberblock) : Type 0 where
  pub there : AreThere out disks.starts
  pub fits : Fits u
  pub settled : AreSettled out disks.calls
  pub leads : Leads trees out disks.starts (content disks) (only_last u before)

-- a stop at any moment since the old one leaves disks that lead to one of the possible uberblocks
abbrev pub LeadAlways : Trees → List Bool → Disks → Disks → Possible → Type 0
LeadAlways trees out old new p = EachSince (length old.calls) (LeavesLeading trees out old.starts p) new.calls
