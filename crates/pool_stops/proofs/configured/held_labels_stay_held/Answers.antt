use Rattle.pool_stops.proofs.Labels.{held_labels_stay_held as law}
use Rattle.pool_stops.proofs.configured.held_labels_stay_held.Goals as goal

pub returns : goal.returns
returns c = law
