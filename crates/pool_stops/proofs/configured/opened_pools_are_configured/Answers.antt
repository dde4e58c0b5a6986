use Rattle.pool_stops.proofs.LabelStops.{opened_pools_are_configured as law}
use Rattle.pool_stops.proofs.configured.opened_pools_are_configured.Goals as goal

pub returns : goal.returns
returns c = law
