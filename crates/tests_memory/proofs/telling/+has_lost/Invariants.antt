use Rattle.std.proofs.Common.{length}
use Rattle.tests_memory.proofs.telling.+has_lost.Given as goal

abbrev pub decreases-has_lost : goal.decreases-has_lost
decreases-has_lost l = length l.before.now
