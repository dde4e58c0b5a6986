use Rattle.volume_rules.proofs.GoodChanges.{not_refused}
use Rattle.volume_rules.proofs.laws.changes_that_are_not_refused_are_good.Goals as goal

pub returns : goal.returns
returns c = not_refused
