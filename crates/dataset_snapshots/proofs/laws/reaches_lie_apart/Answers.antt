use Rattle.dataset_snapshots.proofs.Reaching.{reaches_lie_apart}
use Rattle.dataset_snapshots.proofs.laws.reaches_lie_apart.Goals as goal

pub returns : goal.returns
returns c = reaches_lie_apart
