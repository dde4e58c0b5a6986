use Rattle.std.proofs.Common.{ap, ◌∙◌}
use Rattle.pool_model.specs.Flow.{flow_of}
use Rattle.txg_pipeline.specs.Calls.{cause_of}
use Rattle.pool_intake.proofs.Stepping.{stays, commits}
use Rattle.pool_intake.proofs.intake.Intake.commit.Goals as goal

pub returns-in-Ok-clause-committed : goal.returns-in-Ok-clause-committed
returns-in-Ok-clause-committed c = λ v r. commits _ _ _ v _ r c.in-Ok.ensures.committed

pub returns-in-Err-clause-refused : goal.returns-in-Err-clause-refused
returns-in-Err-clause-refused c = let h = c.in-Err.ensures.refused in (c.from.ensures ∙ ap cause_of h.0, λ v r. (h.1 (flow_of v) r.flow, stays _ _ _ v r c.in-Err.ensures.err))
