use Rattle.pool_stops.proofs.WholeStops.{stopped_opens_reopen as law}
use Rattle.pool_stops.proofs.whole_pools.stopped_opens_reopen.Goals as goal

pub returns : goal.returns
returns c = law c.stopped_opens_lead_whole.ensures c.fault_free_opens_succeed.ensures
