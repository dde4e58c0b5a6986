use Rattle.pool_stops.proofs.Phases.{plans_keep as law}
use Rattle.pool_stops.proofs.laws.plans_keep_the_phase.Goals as goal

pub returns : goal.returns
returns c = law c.blocks_keep_what_is_filled.ensures
