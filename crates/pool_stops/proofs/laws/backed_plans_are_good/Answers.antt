use Rattle.pool_stops.proofs.Backed.{backed_plans_are_good as law}
use Rattle.pool_stops.proofs.laws.backed_plans_are_good.Goals as goal

pub returns : goal.returns
returns c = law
