use Rattle.block_store.proofs.Fewer.{fewer_planned}
use Rattle.block_store.proofs.laws.fewer_are_planned.Goals as goal

pub returns : goal.returns
returns c = fewer_planned
