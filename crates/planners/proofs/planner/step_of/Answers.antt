use Rattle.std.proofs.Common.{sym, subst}
use Rattle.pool_model.specs.declared.step.Step.{Step}
use Rattle.pool_create.specs.CoreStateOf.{state_of}
use Rattle.pool_create.specs.CoreSteps.{TakesStep}
use Rattle.planners.proofs.planner.step_of.Goals as goal

pub returns-in-Plan-clause-goes : goal.returns-in-Plan-clause-goes
returns-in-Plan-clause-goes g c = subst (λ (s : Step). TakesStep (state_of c.args.core.now) s c.plan.result (state_of c.plan.new.core)) (sym c.in-Plan.is) c.plan.ensures.goes
