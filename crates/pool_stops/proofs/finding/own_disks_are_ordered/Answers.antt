use Rattle.pool_stops.proofs.FoundDisks.{own_disks_are_ordered as law}
use Rattle.pool_stops.proofs.finding.own_disks_are_ordered.Goals as goal

pub returns : goal.returns
returns c = law
