use Rattle.pool_model.proofs.Whole.{run_snoc}
use Rattle.pool_model.proofs.laws.steps_follow_runs.Goals as goal

pub returns : goal.returns
returns c = run_snoc
