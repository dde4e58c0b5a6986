use Rattle.pool_stops.proofs.Fitting.{found_disks_may_be_opened as law}
use Rattle.pool_stops.proofs.finding.found_disks_may_be_opened.Goals as goal

pub returns : goal.returns
returns g c = law g.D.Disk
