use Rattle.std.proofs.Common.{arith}
use Rattle.pool_slots.proofs.Choices.{none_at}
use Rattle.pool_slots.proofs.label_choice.first_shown.Goals as goal

pub returns-clause-none : goal.returns-clause-none
returns-clause-none c = none_at c.loop-number.number c.args.shown.now (omega (arith, c.loop-number-test.false)) c.loop-number.invariant
