use Rattle.dataset_snapshots.proofs.Staying.{roots_stay}
use Rattle.dataset_snapshots.proofs.laws.roots_stay.Goals as goal

pub returns : goal.returns
returns c = roots_stay
