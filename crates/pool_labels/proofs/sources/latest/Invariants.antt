use Rattle.pool_labels.proofs.RankLemmas.{LatestOf}
use Rattle.pool_labels.proofs.sources.latest.Given as goal

abbrev pub invariant-loop-i : goal.invariant-loop-i
invariant-loop-i l = LatestOf l.i l.ranks l.best
