use Rattle.std.proofs.Common.{length}
use Rattle.file_pools.proofs.telling.+state_in_use.Given as goal

abbrev pub decreases-state_in_use : goal.decreases-state_in_use
decreases-state_in_use l = length l.spans.now
