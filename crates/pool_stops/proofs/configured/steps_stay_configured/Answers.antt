use Rattle.pool_stops.proofs.Labels.{steps_stay_configured as law}
use Rattle.pool_stops.proofs.configured.steps_stay_configured.Goals as goal

pub returns : goal.returns
returns c = law
