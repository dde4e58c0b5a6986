use Rattle.std.proofs.Common.{take}
use Rattle.programs.specs.DisksKept.{AreCopies, present}
use Rattle.programs.proofs.disks_kept.copies.Given as goal

-- of those so far
abbrev pub invariant-loop-number : goal.invariant-loop-number
invariant-loop-number l = AreCopies (present l.absent (take l.number l.disks)) l.copies.items
