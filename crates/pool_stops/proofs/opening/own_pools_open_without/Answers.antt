use Rattle.pool_stops.proofs.Absent.{own_pools_open_without as law}
use Rattle.pool_stops.proofs.opening.own_pools_open_without.Goals as goal

pub returns : goal.returns
returns g c = law c.fault_free_opens_succeed.ensures g.D.Disk c.found_disks_may_be_opened.ensures
