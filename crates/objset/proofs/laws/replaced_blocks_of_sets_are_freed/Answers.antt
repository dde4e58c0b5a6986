use Rattle.objset.proofs.Gone.{replaced_are_freed}
use Rattle.objset.proofs.laws.replaced_blocks_of_sets_are_freed.Goals as goal

pub returns : goal.returns
returns c = replaced_are_freed
