use Rattle.pool_stops.proofs.Phases.{reads_keep as law}
use Rattle.pool_stops.proofs.laws.reads_keep_the_phase.Goals as goal

pub returns : goal.returns
returns c = law c.blocks_keep_what_is_filled.ensures c.slots_keep_what_is_for_blocks.ensures c.reads_and_flushes_keep.ensures
