use Rattle.pool_stops.proofs.RunningOn.{created_pools_are_on_their_disks as law}
use Rattle.pool_stops.proofs.running.created_pools_are_on_their_disks.Goals as goal

pub returns : goal.returns
returns c = law
