use Rattle.block_store.proofs.Uses.{places_spare as spare}
use Rattle.block_store.proofs.laws.places_spare.Goals as goal

pub returns : goal.returns
returns c = spare
