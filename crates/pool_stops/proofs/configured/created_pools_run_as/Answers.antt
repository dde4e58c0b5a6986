use Rattle.pool_stops.proofs.OneConfigs.{created_pools_run_as as law}
use Rattle.pool_stops.proofs.configured.created_pools_run_as.Goals as goal

pub returns : goal.returns
returns c = law c.created_pools_run.ensures
