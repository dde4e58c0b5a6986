use Rattle.pool_maps.proofs.Staying.{no_map_there}
use Rattle.pool_maps.proofs.laws.other_objects_have_no_maps.Goals as goal

pub returns : goal.returns
returns c = no_map_there
