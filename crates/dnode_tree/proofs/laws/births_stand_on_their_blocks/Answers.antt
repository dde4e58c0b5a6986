use Rattle.dnode_tree.proofs.Ages.{births_stand}
use Rattle.dnode_tree.proofs.laws.births_stand_on_their_blocks.Goals as goal

pub returns : goal.returns
returns c = births_stand
