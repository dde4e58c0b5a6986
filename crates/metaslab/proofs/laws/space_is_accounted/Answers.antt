use Rattle.metaslab.proofs.Accounts.{accounted}
use Rattle.metaslab.proofs.laws.space_is_accounted.Goals as goal

pub returns : goal.returns
returns c = accounted
