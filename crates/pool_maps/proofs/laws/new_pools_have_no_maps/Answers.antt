use Rattle.pool_maps.proofs.Staying.{none_yet}
use Rattle.pool_maps.proofs.laws.new_pools_have_no_maps.Goals as goal

pub returns : goal.returns
returns c = none_yet
