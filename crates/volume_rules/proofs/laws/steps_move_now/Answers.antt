use Rattle.volume_rules.proofs.NowMoves.{moves_now}
use Rattle.volume_rules.proofs.laws.steps_move_now.Goals as goal

pub returns : goal.returns
returns c = moves_now
