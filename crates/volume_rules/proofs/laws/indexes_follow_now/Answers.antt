use Rattle.volume_rules.proofs.NowMoves.{knows_along, knows_step}
use Rattle.volume_rules.proofs.laws.indexes_follow_now.Goals as goal

pub returns : goal.returns
returns c = record {
  shapes = knows_along;
  steps = λ index v given step reply w s h e k. knows_step v given step reply w index s h e k;
}
