use Rattle.pool_stops.proofs.Holding.{due_writes_are_unfilled as law}
use Rattle.pool_stops.proofs.laws.due_writes_are_unfilled.Goals as goal

pub returns : goal.returns
returns c = law
