use Rattle.pool_maps.proofs.Opened.{loaded_for_blocks}
use Rattle.pool_maps.proofs.laws.loaded_maps_are_of_their_blocks.Goals as goal

pub returns : goal.returns
returns c = loaded_for_blocks
