use Rattle.pool_scrub.proofs.Marks.{IsCleanBelow}
use Rattle.pool_scrub.proofs.counting.is_clean.Given as goal

abbrev pub invariant-loop-at : goal.invariant-loop-at
invariant-loop-at l = IsCleanBelow l.at l.left l.disk
