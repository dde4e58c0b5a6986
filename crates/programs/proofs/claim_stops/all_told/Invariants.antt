use Rattle.std.proofs.Common.{take}
use Rattle.programs.specs.ClaimStops.{AreTold}
use Rattle.programs.specs.DisksKept.{present}
use Rattle.programs.proofs.claim_stops.all_told.Given as goal

-- of those so far
abbrev pub invariant-loop-number : goal.invariant-loop-number
invariant-loop-number l = AreTold l.reached 0 (present l.absent (take l.number l.disks)) l.all.items
