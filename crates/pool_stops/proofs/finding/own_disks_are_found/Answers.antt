use Rattle.pool_stops.proofs.FoundDisks.{own_disks_are_found as law}
use Rattle.pool_stops.proofs.finding.own_disks_are_found.Goals as goal

pub returns : goal.returns
returns c = law
