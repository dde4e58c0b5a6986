use Rattle.pool_maps.proofs.Reaching.{maps_for_stay}
use Rattle.pool_maps.proofs.laws.maps_for_blocks_stay.Goals as goal

pub returns : goal.returns
returns c = maps_for_stay
