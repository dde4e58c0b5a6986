use Rattle.std.proofs.Common.{sym, ◌∙◌}
use Rattle.pool_model.specs.Flow.{flow_of}
use Rattle.pool_intake.proofs.Stepping.{as_named, stays, wrote, write_refused}
use Rattle.pool_intake.proofs.intake.Intake.write.Goals as goal

pub returns-in-Ok : goal.returns-in-Ok
returns-in-Ok c = λ v r u. wrote _ _ _ v c.args.write _ r (sym (c.write_refusal.ensures v r u) ∙ c.in_default.is) c.in-Ok.ensures.accepted

pub returns-in-Err : goal.returns-in-Err
returns-in-Err c = λ v r u. as_named _ v _ c.in-Err.cause _ c.from.ensures (write_refused _ v c.args.write c.in-Err.cause (stays _ _ _ v r c.in-Err.ensures.err) u (c.in-Err.ensures.refused (flow_of v) r.flow))
