use Rattle.pool_stops.proofs.Standing.{commits_end}
use Rattle.pool_stops.proofs.laws.commits_end_filled.Goals as goal

pub returns : goal.returns
returns c = commits_end c.slots_phase.ensures.ends c.blocks_phase.ensures.begins
