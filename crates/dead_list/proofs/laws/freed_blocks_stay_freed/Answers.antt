use Rattle.dead_list.proofs.WholeRuns.{freed_for_good}
use Rattle.dead_list.proofs.laws.freed_blocks_stay_freed.Goals as goal

pub returns : goal.returns
returns c = freed_for_good
