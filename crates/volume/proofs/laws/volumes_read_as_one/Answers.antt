use Rattle.volume.proofs.Readings.{volumes_read_as_one}
use Rattle.volume.proofs.laws.volumes_read_as_one.Goals as goal

pub returns : goal.returns
returns c = volumes_read_as_one
