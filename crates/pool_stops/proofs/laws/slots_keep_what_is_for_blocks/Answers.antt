use Rattle.pool_stops.proofs.Standing.{slots_keep}
use Rattle.pool_stops.proofs.laws.slots_keep_what_is_for_blocks.Goals as goal

pub returns : goal.returns
returns c = slots_keep c.slots_phase.ensures.goes_on
