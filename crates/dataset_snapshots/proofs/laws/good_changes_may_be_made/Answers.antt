use Rattle.dataset_snapshots.proofs.GoodNames.{good_changes_may_be_made}
use Rattle.dataset_snapshots.proofs.laws.good_changes_may_be_made.Goals as goal

pub returns : goal.returns
returns c = good_changes_may_be_made
