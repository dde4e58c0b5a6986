use Rattle.pool_stops.proofs.LabelStops.{exports_stay_configured as law}
use Rattle.pool_stops.proofs.configured.exports_stay_configured.Goals as goal

pub returns : goal.returns
returns c = law
