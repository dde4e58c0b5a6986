use Rattle.pool_commit.proofs.Labels.{labels_of_opened_lie as lie}
use Rattle.pool_commit.proofs.laws.labels_of_opened_lie.Goals as goal

pub returns : goal.returns
returns c = lie
