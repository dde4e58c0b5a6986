use Rattle.dataset_groups.proofs.Beginning.{before_are_older}
use Rattle.dataset_groups.proofs.laws.groups_before_are_older.Goals as goal

pub returns : goal.returns
returns c = before_are_older
