use Rattle.std.proofs.Common.{◌≡◌, ◌+◌, List, length}
use Rattle.pool_model.specs.declared.step.Reply.{Reply}
use Rattle.programs.specs.Answers.{Leads}
use Rattle.programs.specs.Stops.{count_moved}
use Rattle.programs.proofs.stopping.run_to.Given as goal

abbrev pub invariant-loop : goal.invariant-loop
invariant-loop g l =
    (replies : List Reply) × Leads g.P.StepMachine.steps l.fn.pool l.fn.step replies l.reply l.pool × (length replies ≡ l.counter)
    × (count_moved l.fn.point.phase replies + l.left ≡ l.fn.point.before)
