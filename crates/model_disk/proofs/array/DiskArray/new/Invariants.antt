use Rattle.std.proofs.Common.{◌≡◌, ℕ, map, take}
use Rattle.model_disk.specs.Joint.{calls_on, log_of}
use Rattle.model_disk.proofs.array.DiskArray.new.Given as goal

-- the disks so far
abbrev pub invariant-loop-which : goal.invariant-loop-which
invariant-loop-which g l = (which : ℕ) → log_of (take l.which-counter (map g.D.Disk.calls l.fn.disks.items)) which ≡ calls_on which l.log.calls
