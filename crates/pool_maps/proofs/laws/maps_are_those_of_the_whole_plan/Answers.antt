use Rattle.pool_maps.proofs.Besides.{whole_plan}
use Rattle.pool_maps.proofs.laws.maps_are_those_of_the_whole_plan.Goals as goal

pub returns : goal.returns
returns c = whole_plan
