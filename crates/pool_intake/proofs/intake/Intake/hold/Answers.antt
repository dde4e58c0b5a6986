use Rattle.std.proofs.Common.{⊎_elim, inl, inr}
use Rattle.pool_model.specs.Flow.{flow_of}
use Rattle.pool_intake.proofs.Stepping.{as_named, stays, held, hold_refused}
use Rattle.pool_intake.proofs.intake.Intake.hold.Goals as goal

pub returns-in-Ok : goal.returns-in-Ok
returns-in-Ok c = λ v r u. held _ _ _ v _ _ r u c.in-Ok.ensures.held

pub returns-in-Err : goal.returns-in-Err
returns-in-Err c = λ v r u. as_named _ v _ c.in-Err.cause _ c.from.ensures (hold_refused _ v c.args.writer c.in-Err.cause (stays _ _ _ v r c.in-Err.ensures.err) u (⊎_elim inl (λ h. inr (h.0, h.1 (flow_of v) r.flow)) c.in-Err.ensures.refused))
