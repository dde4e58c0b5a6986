use Rattle.pool_stops.proofs.Phases.{phases_end as law}
use Rattle.pool_stops.proofs.laws.phases_end.Goals as goal

pub returns : goal.returns
returns c = law c.slots_keep_what_is_for_blocks.ensures c.commits_end_filled.ensures
