use Rattle.uberblock_ring.proofs.Ranks.{HighestOf}
use Rattle.uberblock_ring.proofs.ranking.highest.Given as goal

abbrev pub invariant-loop-i : goal.invariant-loop-i
invariant-loop-i l = HighestOf l.i l.slots l.best
