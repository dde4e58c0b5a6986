use Rattle.dnode_tree.proofs.Standing.{trees_stand}
use Rattle.dnode_tree.proofs.laws.trees_stand_on_their_blocks.Goals as goal

pub returns : goal.returns
returns c = trees_stand
