use Rattle.volume.proofs.Losses.{losses_of_volumes}
use Rattle.volume.proofs.laws.losses_of_volumes.Goals as goal

pub returns : goal.returns
returns c = losses_of_volumes
