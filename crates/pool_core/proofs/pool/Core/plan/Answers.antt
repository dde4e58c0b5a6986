use Rattle.std.proofs.Common.{sym, subst}
use Rattle.pool_model.specs.declared.step.Step.TheVariants as steps
use Rattle.pool_commit.specs.State.{State}
use Rattle.pool_core.specs.StateOf.{state_of}
use Rattle.pool_core.specs.Steps.{TakesStepUnlessSuspended}
use Rattle.pool_core.proofs.pool.Core.plan.Goals as goal

pub returns-clause-goes : goal.returns-clause-goes
returns-clause-goes g c time =
    let planned = state_of c.plan_blocks-reply.new.self in
    subst (λ (m : State). TakesStepUnlessSuspended (state_of c.args.self.now) (steps.Plan time) c.plan_blocks-reply.result (record planned { commit = m }))
    (sym c.make_due_here.ensures) (c.plan_blocks-reply.ensures.goes time)
