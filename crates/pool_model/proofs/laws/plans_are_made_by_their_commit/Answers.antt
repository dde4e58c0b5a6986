use Rattle.pool_model.proofs.Finishing.{wholly_made}
use Rattle.pool_model.proofs.laws.plans_are_made_by_their_commit.Goals as goal

pub returns : goal.returns
returns c = wholly_made
