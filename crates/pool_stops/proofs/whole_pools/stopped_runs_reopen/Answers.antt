use Rattle.pool_stops.proofs.WholeStops.{stopped_runs_reopen as law}
use Rattle.pool_stops.proofs.whole_pools.stopped_runs_reopen.Goals as goal

pub returns : goal.returns
returns c = law c.runs_stop_as.ensures c.stopped_runs_lead_whole.ensures c.fault_free_opens_succeed.ensures
