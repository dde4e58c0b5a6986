use Rattle.pool_stops.proofs.Phases.{phases_go_on as law}
use Rattle.pool_stops.proofs.laws.phases_go_on.Goals as goal

pub returns : goal.returns
returns c =
    law c.blocks_keep_what_is_filled.ensures c.slots_begin_behind_blocks.ensures c.slots_keep_what_is_for_blocks.ensures c.reads_and_flushes_keep.ensures
