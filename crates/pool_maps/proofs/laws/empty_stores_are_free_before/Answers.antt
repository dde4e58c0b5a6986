use Rattle.pool_maps.proofs.Opened.{empty_is_free}
use Rattle.pool_maps.proofs.laws.empty_stores_are_free_before.Goals as goal

pub returns : goal.returns
returns c = empty_is_free
