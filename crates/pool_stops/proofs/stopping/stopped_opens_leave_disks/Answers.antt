use Rattle.pool_stops.proofs.StoppedDisks.{stopped_opens_leave_disks as law}
use Rattle.pool_stops.proofs.stopping.stopped_opens_leave_disks.Goals as goal

pub returns : goal.returns
returns c = law c.opens_stay_configured.ensures c.own_disks_show_at_most_three_configurations.ensures c.possible_configurations_are_shown.ensures
