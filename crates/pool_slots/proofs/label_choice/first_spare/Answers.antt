use Rattle.std.proofs.Common.{arith}
use Rattle.pool_slots.proofs.Choices.{none_spare}
use Rattle.pool_slots.proofs.label_choice.first_spare.Goals as goal

pub returns-clause-none : goal.returns-clause-none
returns-clause-none c = none_spare c.loop-number.number c.args.shown.now c.args.claim (omega (arith, c.loop-number-test.false)) c.loop-number.invariant
