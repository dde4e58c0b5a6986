use Rattle.pool_create.specs.FirstGroup.{AreStepsWith}
use Rattle.pool_create.proofs.steps.first_steps.Given as goal

abbrev pub invariant-loop : goal.invariant-loop
invariant-loop l = AreStepsWith l.counter l.steps.items
