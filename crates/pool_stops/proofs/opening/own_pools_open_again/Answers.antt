use Rattle.pool_stops.proofs.OwnReopening.{own_pools_open_again as law}
use Rattle.pool_stops.proofs.opening.own_pools_open_again.Goals as goal

pub returns : goal.returns
returns g c = law c.fault_free_opens_succeed.ensures c.opened_pools_run_as.ensures c.opened_pools_are_on_their_disks.ensures
    c.stopped_opens_lead_to_own_pools.ensures g.D.Disk g.met.D.Disk.is_within
