use Rattle.pool_stops.proofs.Unhindered.{fault_free_opens_succeed as law}
use Rattle.pool_stops.proofs.whole_pools.fault_free_opens_succeed.Goals as goal

pub returns : goal.returns
returns c = law c.losses_are_not_tolerable.ensures
