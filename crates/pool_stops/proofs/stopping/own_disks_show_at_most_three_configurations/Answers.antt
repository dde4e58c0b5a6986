use Rattle.pool_stops.proofs.StoppedDisks.{own_disks_show_at_most_three_configurations as law}
use Rattle.pool_stops.proofs.stopping.own_disks_show_at_most_three_configurations.Goals as goal

pub returns : goal.returns
returns c = law
