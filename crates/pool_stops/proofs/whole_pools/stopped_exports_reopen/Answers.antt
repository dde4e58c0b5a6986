use Rattle.pool_stops.proofs.WholeStops.{stopped_exports_reopen as law}
use Rattle.pool_stops.proofs.whole_pools.stopped_exports_reopen.Goals as goal

pub returns : goal.returns
returns c = law c.stopped_exports_lead_whole.ensures c.fault_free_opens_succeed.ensures
