use Rattle.pool_stops.proofs.OneConfigs.{runs_stop_as as law}
use Rattle.pool_stops.proofs.configured.runs_stop_as.Goals as goal

pub returns : goal.returns
returns c = law c.running_pools_step_on.ensures c.steps_stay_configured.ensures
