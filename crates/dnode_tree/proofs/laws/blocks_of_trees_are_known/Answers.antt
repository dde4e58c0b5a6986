use Rattle.dnode_tree.proofs.Standing.{tree_blocks_known}
use Rattle.dnode_tree.proofs.laws.blocks_of_trees_are_known.Goals as goal

pub returns : goal.returns
returns c = tree_blocks_known
