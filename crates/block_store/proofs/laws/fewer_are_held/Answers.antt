use Rattle.block_store.proofs.Fewer.{fewer_are_held}
use Rattle.block_store.proofs.laws.fewer_are_held.Goals as goal

pub returns : goal.returns
returns c = fewer_are_held
