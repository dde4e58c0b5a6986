use Rattle.std.proofs.Common.{List, subst}
use Rattle.pool_open.proofs.CommitMade.{GrewTo-none}
use Rattle.pool_open.proofs.CoreRunning.{came_through}
use Rattle.pool_open.specs.CoreRuns.{Ran}
use Rattle.pool_open.specs.CoreState.{disks_of}
use Rattle.pool_open.specs.CoreStateOf.{state_of}
use Rattle.pool_model.specs.declared.step.Reply.{Reply}
use Rattle.pool_create.proofs.steps.run_first.Goals as goal

pub returns-in_err-steps-clause-grew : goal.returns-in_err-steps-clause-grew
returns-in_err-steps-clause-grew g c = GrewTo-none (disks_of (state_of c.args.core.now))

pub returns-in-Ok-clause-ran : goal.returns-in-Ok-clause-ran
returns-in-Ok-clause-ran g c = record {
  steps = c.in_ok-steps.steps.items;
  are = c.in_ok-steps.ensures;
  ran = subst (λ (xs : List Reply). Ran (state_of c.args.core.now) c.in_ok-steps.steps.items xs (state_of c.run.new.core) c.run.new.replies.items) c.new-replies.ensures.items c.in-Ok.ensures.all;
}

pub returns-in-Ok-clause-grew : goal.returns-in-Ok-clause-grew
returns-in-Ok-clause-grew g c =
    let ran = c.in-Ok.ensures.all in
    (came_through (state_of c.args.core.now) c.in_ok-steps.steps.items ran.0 (state_of c.run.new.core) ran.2).grew

pub returns-in-Err-clause-grew : goal.returns-in-Err-clause-grew
returns-in-Err-clause-grew g c =
    let front = c.in-Err.ensures.front in
    let ran = front.3 in
    (came_through (state_of c.args.core.now) front.0 ran.0 (state_of c.run.new.core) ran.2).grew
