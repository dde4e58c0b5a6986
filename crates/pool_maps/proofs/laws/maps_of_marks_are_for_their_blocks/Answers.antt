use Rattle.pool_maps.proofs.Reaching.{for_their_blocks}
use Rattle.pool_maps.proofs.laws.maps_of_marks_are_for_their_blocks.Goals as goal

pub returns : goal.returns
returns c = for_their_blocks
