use Rattle.pool_stops.proofs.Runs.{runs_stop}
use Rattle.pool_stops.proofs.laws.runs_stop_well.Goals as goal

pub returns : goal.returns
returns c = runs_stop c.running_pools_step_on.ensures
