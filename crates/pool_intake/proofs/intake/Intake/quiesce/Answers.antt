use Rattle.pool_model.specs.Flow.{flow_of}
use Rattle.pool_intake.proofs.Stepping.{as_named, stays, quiesced, quiesce_refused}
use Rattle.pool_intake.proofs.intake.Intake.quiesce.Goals as goal

pub returns-in-Ok : goal.returns-in-Ok
returns-in-Ok c = λ v r u. quiesced _ _ _ v _ r u c.in-Ok.ensures.quiesced

pub returns-in-Err : goal.returns-in-Err
returns-in-Err c = λ v r u. let h = c.in-Err.ensures.refused in as_named _ v _ c.in-Err.cause _ c.from.ensures (quiesce_refused _ v c.in-Err.cause (stays _ _ _ v r c.in-Err.ensures.err) u h.0 (h.1 (flow_of v) r.flow))
