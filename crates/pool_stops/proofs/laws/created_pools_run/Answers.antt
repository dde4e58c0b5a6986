use Rattle.pool_stops.proofs.Created.{created_pools_run as law}
use Rattle.pool_stops.proofs.laws.created_pools_run.Goals as goal

pub returns : goal.returns
returns c = law c.blocks_phase.ensures.begins
