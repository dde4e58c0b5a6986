use Rattle.pool_stops.proofs.OwnReopening.{stopped_runs_lead_to_own_pools as law}
use Rattle.pool_stops.proofs.opening.stopped_runs_lead_to_own_pools.Goals as goal

pub returns : goal.returns
returns c = law c.runs_stay_on_their_disks.ensures c.stopped_runs_lead_whole.ensures c.stopped_runs_leave_disks.ensures
