use Rattle.dnode_tree.proofs.Replacing.{replaced_are_freed}
use Rattle.dnode_tree.proofs.laws.replaced_blocks_are_freed.Goals as goal

pub returns : goal.returns
returns c = replaced_are_freed
