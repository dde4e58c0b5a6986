use Rattle.pool_maps.proofs.Givable.{sized_given_back}
use Rattle.pool_maps.proofs.laws.stored_blocks_can_be_given_back.Goals as goal

pub returns : goal.returns
returns c = sized_given_back
