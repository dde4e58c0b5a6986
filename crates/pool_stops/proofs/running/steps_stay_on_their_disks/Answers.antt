use Rattle.pool_stops.proofs.RunningOn.{steps_stay_on_their_disks as law}
use Rattle.pool_stops.proofs.running.steps_stay_on_their_disks.Goals as goal

pub returns : goal.returns
returns c = law c.running_pools_step_on.ensures c.steps_stay_configured.ensures
