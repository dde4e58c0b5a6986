use Rattle.dnode_tree.proofs.Ages.{births_within}
use Rattle.dnode_tree.proofs.laws.births_are_within.Goals as goal

pub returns : goal.returns
returns c = births_within
