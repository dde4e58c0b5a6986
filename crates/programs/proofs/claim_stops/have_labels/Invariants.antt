use Rattle.std.proofs.Common.{ℕ, ◌<◌, ◌≤◌, length}
use Rattle.model_disk.specs.Joint.{bytes_of}
use Rattle.programs.proofs.claim_stops.have_labels.Given as goal

-- each of those so far
abbrev pub invariant-loop-which : goal.invariant-loop-which
invariant-loop-which g l = (n : ℕ) → n < l.which → 1048576 ≤ length (bytes_of l.disks.starts n)
