use Rattle.pool_labels.proofs.RankLemmas.{RanksTo}
use Rattle.pool_labels.proofs.sources.ranks_of.Given as goal

abbrev pub invariant-loop-label : goal.invariant-loop-label
invariant-loop-label l = RanksTo l.digest l.labels l.label-index l.ranks.items
