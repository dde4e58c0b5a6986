use mathlib.Core.Logic.{∥∥₁_elim}
use Rattle.pool_create.specs.CoreStateOf.{state_of}
use Rattle.thread_schedules.proofs.Lacking.{within}
use Rattle.thread_schedules.proofs.begun.BegunPoolSteps.take_step.Goals as goal

pub returns-clause-goes : goal.returns-clause-goes
returns-clause-goes g c = λ v represents truly.
    let old = state_of c.args.self.now.core in
    let new = state_of c.step.new.self in
    let one = within old v c.args.step c.step.result c.within.result new (c.step.ensures.2 v represents) c.within.ensures.same in
    record {
      given = one.given;
      trusted = one.trusted;
      after = one.after;
      is_step = one.link.is_step;
      represents_after = one.link.represents;
      link = (c.step.ensures.0, one.link, c.step.ensures.1);
    }

pub step-requires : goal.step-requires
step-requires g c = ∥∥₁_elim c.args.self.now.ready g.met.X.SharedPlanner.ready_once (λ ready. ready)
