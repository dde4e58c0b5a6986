use Rattle.objset.proofs.Kept.{objects_stand}
use Rattle.objset.proofs.laws.objects_stand_on_their_blocks.Goals as goal

pub returns : goal.returns
returns c = objects_stand
