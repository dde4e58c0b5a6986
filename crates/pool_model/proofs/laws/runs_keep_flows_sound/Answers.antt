use Rattle.pool_model.proofs.SoundFlows.{sound_flow, flow_snoc}
use Rattle.pool_model.proofs.laws.runs_keep_flows_sound.Goals as goal

pub returns-clause-step : goal.returns-clause-step
returns-clause-step c = sound_flow

pub returns-clause-further : goal.returns-clause-further
returns-clause-further c = flow_snoc
