use Rattle.dataset_snapshots.proofs.Standing.{roots_stand}
use Rattle.dataset_snapshots.proofs.laws.roots_stand_on_their_reach.Goals as goal

pub returns : goal.returns
returns c = roots_stand
