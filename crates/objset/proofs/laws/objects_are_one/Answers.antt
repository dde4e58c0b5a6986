use Rattle.objset.proofs.Readings.{objects_are_one}
use Rattle.objset.proofs.laws.objects_are_one.Goals as goal

pub returns : goal.returns
returns c = objects_are_one
