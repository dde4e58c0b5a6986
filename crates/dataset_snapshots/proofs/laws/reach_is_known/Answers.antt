use Rattle.dataset_snapshots.proofs.Standing.{reach_is_known}
use Rattle.dataset_snapshots.proofs.laws.reach_is_known.Goals as goal

pub returns : goal.returns
returns c = reach_is_known
