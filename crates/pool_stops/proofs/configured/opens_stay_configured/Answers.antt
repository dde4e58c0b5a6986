use Rattle.pool_stops.proofs.LabelStops.{opens_stay_configured as law}
use Rattle.pool_stops.proofs.configured.opens_stay_configured.Goals as goal

pub returns : goal.returns
returns c = law
