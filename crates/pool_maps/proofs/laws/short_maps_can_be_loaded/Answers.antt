use Rattle.pool_maps.proofs.Staying.{short_maps_there}
use Rattle.pool_maps.proofs.laws.short_maps_can_be_loaded.Goals as goal

pub returns : goal.returns
returns c = short_maps_there
