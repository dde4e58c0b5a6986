use Rattle.dataset_snapshots.proofs.GroupReach.{replaced_leave}
use Rattle.dataset_snapshots.proofs.laws.replaced_of_groups_leave.Goals as goal

pub returns : goal.returns
returns c = replaced_leave
