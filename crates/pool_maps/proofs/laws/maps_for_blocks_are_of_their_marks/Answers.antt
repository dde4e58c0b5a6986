use Rattle.pool_maps.proofs.Reaching.{of_their_marks}
use Rattle.pool_maps.proofs.laws.maps_for_blocks_are_of_their_marks.Goals as goal

pub returns : goal.returns
returns c = of_their_marks
