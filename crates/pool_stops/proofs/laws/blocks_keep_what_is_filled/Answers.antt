use Rattle.pool_stops.proofs.Standing.{blocks_keep}
use Rattle.pool_stops.proofs.laws.blocks_keep_what_is_filled.Goals as goal

pub returns : goal.returns
returns c = blocks_keep c.blocks_phase.ensures.goes_on
