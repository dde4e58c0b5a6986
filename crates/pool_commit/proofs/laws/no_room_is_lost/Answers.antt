use Rattle.pool_commit.proofs.Accounted.{no_room_is_lost as no_room}
use Rattle.pool_commit.proofs.laws.no_room_is_lost.Goals as goal

pub returns : goal.returns
returns c = no_room
