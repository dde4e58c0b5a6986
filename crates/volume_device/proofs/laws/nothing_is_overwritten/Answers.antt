use Rattle.volume_device.proofs.Pieces.{overwritten_none}
use Rattle.volume_device.proofs.laws.nothing_is_overwritten.Goals as goal

pub returns : goal.returns
returns c = λ name offset pool. overwritten_none name offset pool
