use Rattle.pool_stops.proofs.Filled.{stored_blocks_are_in_use as law}
use Rattle.pool_stops.proofs.laws.stored_blocks_are_in_use.Goals as goal

pub returns : goal.returns
returns c = law
