use Rattle.pool_stops.proofs.Runs.{steps_on}
use Rattle.pool_stops.proofs.laws.running_pools_step_on.Goals as goal

pub returns : goal.returns
returns c = steps_on (record {
  blocks = c.blocks_keep_what_is_filled.ensures;
  begin = c.slots_begin_behind_blocks.ensures;
  unseen = c.blocks_phase.ensures.unseen;
  go_on = c.phases_go_on.ensures;
  reads = c.reads_keep_the_phase.ensures;
  plans = c.plans_keep_the_phase.ensures;
  ends = c.phases_end.ensures;
  keep = c.reads_and_flushes_keep.ensures;
})
