use Rattle.pool_open.proofs.Holding.{claims_keep_what_is_held as keep}
use Rattle.pool_open.proofs.laws.claims_keep_what_is_held.Goals as goal

pub returns : goal.returns
returns c = keep c.writes_elsewhere_keep.ensures
