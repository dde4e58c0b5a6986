use Rattle.pool_model.proofs.Sounds.{sound_step, sound_start}
use Rattle.pool_model.proofs.laws.runs_keep_views_sound.Goals as goal

pub returns-clause-step : goal.returns-clause-step
returns-clause-step c = sound_step

pub returns-clause-start : goal.returns-clause-start
returns-clause-start c = sound_start
