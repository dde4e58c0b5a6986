use Rattle.pool_stops.proofs.Begun.{stopped_steps_lead_to_own_pools as law}
use Rattle.pool_stops.proofs.opening.stopped_steps_lead_to_own_pools.Goals as goal

pub returns : goal.returns
returns c = law (record {
  begin = c.blocks_phase.ensures.begins;
  go_on = c.blocks_phase.ensures.goes_on;
  filled = c.blocks_keep_what_is_filled.ensures;
  stay = c.steps_stay_on_their_disks.ensures;
  lead = c.stopped_runs_lead_whole.ensures;
  leave = c.stopped_runs_leave_disks.ensures;
})
