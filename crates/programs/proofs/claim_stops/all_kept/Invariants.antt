use Rattle.programs.specs.ClaimStops.{AreKept}
use Rattle.programs.proofs.claim_stops.all_kept.Given as goal

-- of those so far
abbrev pub invariant-loop-member : goal.invariant-loop-member
invariant-loop-member l = AreKept l.yielded l.all.items
