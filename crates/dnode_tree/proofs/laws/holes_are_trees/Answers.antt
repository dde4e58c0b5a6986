use Rattle.dnode_tree.proofs.Standing.{empty_trees}
use Rattle.dnode_tree.proofs.laws.holes_are_trees.Goals as goal

pub returns : goal.returns
returns c = empty_trees
