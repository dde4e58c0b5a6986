use Rattle.pool_stops.proofs.StoppedDisks.{stopped_exports_leave_disks as law}
use Rattle.pool_stops.proofs.stopping.stopped_exports_leave_disks.Goals as goal

pub returns : goal.returns
returns c = law c.exports_stay_configured.ensures
