use Rattle.pool_maps.proofs.Staying.{by_settling}
use Rattle.pool_maps.proofs.laws.maps_stay_as_plans_begin.Goals as goal

pub returns : goal.returns
returns c = by_settling
