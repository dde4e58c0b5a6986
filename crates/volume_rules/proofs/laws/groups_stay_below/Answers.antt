use Rattle.volume_rules.proofs.Overlays.{made_by_applied}
use Rattle.volume_rules.proofs.Pending.{below_now, below_start, below_step}
use Rattle.volume_rules.proofs.laws.groups_stay_below.Goals as goal

pub returns : goal.returns
returns c = record {
  start = below_start;
  applied = made_by_applied;
  step = below_step;
  now = below_now;
}
