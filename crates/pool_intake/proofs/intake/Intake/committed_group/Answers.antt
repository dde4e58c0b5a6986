use Rattle.pool_model.specs.Flow.{flow_of}
use Rattle.pool_intake.proofs.intake.Intake.committed_group.Goals as goal

pub returns : goal.returns
returns c = λ v r. c.committed_group.ensures (flow_of v) r.flow
