use Rattle.dataset_snapshots.proofs.Losses.{losses_by_rows}
use Rattle.dataset_snapshots.proofs.laws.losses_by_rows.Goals as goal

pub returns : goal.returns
returns c = losses_by_rows
