use Rattle.pool_stops.proofs.Labels.{left_disks_are_configured as law}
use Rattle.pool_stops.proofs.configured.left_disks_are_configured.Goals as goal

pub returns : goal.returns
returns c = law
