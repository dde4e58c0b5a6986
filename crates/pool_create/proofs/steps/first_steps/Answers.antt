use Rattle.std.proofs.Common.{arith}
use Rattle.pool_create.proofs.FirstGroup.{steps_more}
use Rattle.pool_create.proofs.steps.first_steps.Goals as goal

pub loop-init : goal.loop-init
loop-init c = c.in_ok-steps.ensures.items

pub loop-preserved : goal.loop-preserved
loop-preserved c = steps_more c.loop.counter c.loop.steps.items c.push.new.self.items c.loop.invariant c.in_ok-push.ensures.items

pub returns : goal.returns
returns c = (c.loop.counter, omega (arith, c.loop-test.false), c.loop.invariant)
