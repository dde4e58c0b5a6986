use Rattle.pool_stops.proofs.StoppedDisks.{possible_configurations_are_shown as law}
use Rattle.pool_stops.proofs.stopping.possible_configurations_are_shown.Goals as goal

pub returns : goal.returns
returns c = law
