use Rattle.dataset_snapshots.proofs.Losses.{losses_of_groups}
use Rattle.dataset_snapshots.proofs.laws.losses_of_groups.Goals as goal

pub returns : goal.returns
returns c = losses_of_groups c.losses_of_destroys.ensures
