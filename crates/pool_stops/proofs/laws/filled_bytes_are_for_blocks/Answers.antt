use Rattle.pool_stops.proofs.Filled.{filled_bytes_are_for_blocks as law}
use Rattle.pool_stops.proofs.laws.filled_bytes_are_for_blocks.Goals as goal

pub returns : goal.returns
returns c = law
