use Rattle.volume_rules.proofs.Effects.{effects_opened, effects_start, effects_step}
use Rattle.volume_rules.proofs.laws.changes_take_effect.Goals as goal

pub returns : goal.returns
returns c = record {
  start = effects_start;
  opened = effects_opened;
  step = effects_step;
}
