use Rattle.pool_stops.proofs.OneConfigs.{opened_pools_run_as as law}
use Rattle.pool_stops.proofs.configured.opened_pools_run_as.Goals as goal

pub returns : goal.returns
returns c = law c.led_disks_open.ensures
