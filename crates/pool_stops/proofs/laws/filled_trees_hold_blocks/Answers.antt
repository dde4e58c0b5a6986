use Rattle.pool_stops.proofs.Holding.{filled_trees_hold_blocks as law}
use Rattle.pool_stops.proofs.laws.filled_trees_hold_blocks.Goals as goal

pub returns : goal.returns
returns c = law
