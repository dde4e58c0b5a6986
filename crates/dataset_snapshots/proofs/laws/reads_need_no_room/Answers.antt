use Rattle.dataset_snapshots.proofs.ReadRefusals.{reads_need_no_room}
use Rattle.dataset_snapshots.proofs.laws.reads_need_no_room.Goals as goal

pub returns : goal.returns
returns c = reads_need_no_room
