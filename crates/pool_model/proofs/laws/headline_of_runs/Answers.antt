use Rattle.pool_model.proofs.Whole.{headline}
use Rattle.pool_model.proofs.laws.headline_of_runs.Goals as goal

pub returns : goal.returns
returns c = headline
