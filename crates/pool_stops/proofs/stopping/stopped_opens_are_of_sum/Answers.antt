use Rattle.pool_stops.proofs.StoppedDisks.{stopped_opens_are_of_sum as law}
use Rattle.pool_stops.proofs.stopping.stopped_opens_are_of_sum.Goals as goal

pub returns : goal.returns
returns c = law
