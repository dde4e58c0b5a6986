use Rattle.pool_stops.proofs.Standing.{slots_begin}
use Rattle.pool_stops.proofs.laws.slots_begin_behind_blocks.Goals as goal

pub returns : goal.returns
returns c = slots_begin c.blocks_phase.ensures.ends c.slots_phase.ensures.begins
