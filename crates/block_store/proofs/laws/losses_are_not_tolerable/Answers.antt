use Rattle.block_store.proofs.Losses.{not_tolerable}
use Rattle.block_store.proofs.laws.losses_are_not_tolerable.Goals as goal

pub returns : goal.returns
returns c = not_tolerable c.few_are_not_more.ensures
