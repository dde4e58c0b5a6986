use Rattle.space_map.proofs.Updates.{map_updated}
use Rattle.space_map.proofs.laws.maps_are_updated.Goals as goal

pub returns : goal.returns
returns c = map_updated
