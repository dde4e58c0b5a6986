use Rattle.pool_stops.proofs.Reopening.{runs_outlive}
use Rattle.pool_stops.proofs.laws.runs_outlive_stops.Goals as goal

pub returns : goal.returns
returns c = runs_outlive c.runs_stop_well.ensures c.led_disks_open.ensures
