use Rattle.pool_open.proofs.Stops.{stopped_can_be_opened as stopped}
use Rattle.pool_open.proofs.laws.stopped_can_be_opened.Goals as goal

pub returns : goal.returns
returns c = stopped
