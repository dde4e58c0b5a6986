use Rattle.pool_stops.proofs.Labels.{held_labels_are_left as law}
use Rattle.pool_stops.proofs.configured.held_labels_are_left.Goals as goal

pub returns : goal.returns
returns c = law
