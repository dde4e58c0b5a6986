use Rattle.pool_scrub.proofs.Marks.{AreWholeBelow}
use Rattle.pool_scrub.proofs.counting.whole_of.Given as goal

abbrev pub invariant-loop-disk : goal.invariant-loop-disk
invariant-loop-disk l = AreWholeBelow l.disk l.out l.left l.unflushed l.whole.items
