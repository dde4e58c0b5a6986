use Rattle.std.proofs.Common.{arith}
use Rattle.pool_slots.proofs.LabelPlans.{none_given}
use Rattle.pool_slots.proofs.areas.donor_of.Goals as goal

pub returns-clause-none : goal.returns-clause-none
returns-clause-none c = none_given c.loop-which.which c.args.labels.now c.args.digest.now (omega (arith, c.loop-which-test.false)) c.loop-which.invariant
