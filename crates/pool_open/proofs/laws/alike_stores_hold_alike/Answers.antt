use Rattle.pool_open.proofs.Holding.{alike_stores_hold_alike as alike}
use Rattle.pool_open.proofs.laws.alike_stores_hold_alike.Goals as goal

pub returns : goal.returns
returns c = alike
