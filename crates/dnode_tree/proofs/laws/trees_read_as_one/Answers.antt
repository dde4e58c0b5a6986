use Rattle.dnode_tree.proofs.Readings.{trees_read_as_one}
use Rattle.dnode_tree.proofs.laws.trees_read_as_one.Goals as goal

pub returns : goal.returns
returns c = trees_read_as_one
