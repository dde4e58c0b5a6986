use Rattle.vdev_label.proofs.Allows.{allowed_has_room}
use Rattle.vdev_label.proofs.laws.allowed_has_room.Goals as goal

pub returns : goal.returns
returns c = allowed_has_room
