use Rattle.dead_list.proofs.Reaching.{reach_once}
use Rattle.dead_list.proofs.laws.reach_has_each_block_once.Goals as goal

pub returns : goal.returns
returns c = λ pool numbers sound. reach_once pool sound numbers
