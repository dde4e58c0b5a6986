use Rattle.pool_intake.proofs.Resting.{now_is_committed as committed}
use Rattle.pool_intake.proofs.laws.now_is_committed.Goals as goal

pub returns : goal.returns
returns c = committed
