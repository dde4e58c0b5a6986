use Rattle.pool_intake.proofs.Stepping.{followed}
use Rattle.pool_intake.proofs.laws.views_are_followed_by_their_groups.Goals as goal

pub returns : goal.returns
returns c = followed
