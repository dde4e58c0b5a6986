use Rattle.volume.proofs.Standing.{volumes_stay}
use Rattle.volume.proofs.laws.volumes_stay.Goals as goal

pub returns : goal.returns
returns c = volumes_stay
