use Rattle.std.proofs.Common.{ℕ, ◌<◌, ◌≤◌}
use Rattle.block_store.specs.Config.{IsAllowedSize, sectors_of, size_of}
use Rattle.block_store.proofs.opening.have_sectors.Given as goal

-- the disks so far have them
abbrev pub invariant-loop-disk : goal.invariant-loop-disk
invariant-loop-disk g l = (other : ℕ) → l.first ≤ other → other < l.disk
    → IsAllowedSize (size_of l.disks.starts other) × (l.sectors ≤ sectors_of (size_of l.disks.starts other))
