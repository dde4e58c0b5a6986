use Rattle.pool_stops.proofs.OwnReopening.{stopped_exports_lead_to_own_pools as law}
use Rattle.pool_stops.proofs.opening.stopped_exports_lead_to_own_pools.Goals as goal

pub returns : goal.returns
returns c = law c.stopped_exports_lead_whole.ensures c.stopped_exports_leave_disks.ensures
