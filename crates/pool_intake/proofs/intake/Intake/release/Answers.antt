use Rattle.pool_model.specs.Flow.{flow_of}
use Rattle.pool_intake.proofs.Judging.{release_held}
use Rattle.pool_intake.proofs.Stepping.{as_named, stays, released, release_refused}
use Rattle.pool_intake.proofs.intake.Intake.release.Goals as goal

pub returns-in-Ok : goal.returns-in-Ok
returns-in-Ok c = λ v r. released _ _ _ v _ r (release_held v c.args.writer (c.in-Ok.ensures.was_held (flow_of v) r.flow)) c.in-Ok.ensures.released

pub returns-in-Err : goal.returns-in-Err
returns-in-Err c = λ v r. let h = c.in-Err.ensures.refused in as_named _ v _ c.in-Err.cause _ c.from.ensures (release_refused _ v c.args.writer c.in-Err.cause (stays _ _ _ v r c.in-Err.ensures.err) h.0 (h.1 (flow_of v) r.flow))
