use Rattle.volume.proofs.Standing.{volumes_stand}
use Rattle.volume.proofs.laws.volumes_stand_on_their_blocks.Goals as goal

pub returns : goal.returns
returns c = volumes_stand
