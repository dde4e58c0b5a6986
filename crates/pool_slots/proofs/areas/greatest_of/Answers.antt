use Rattle.std.proofs.Common.{arith}
use Rattle.pool_slots.proofs.LabelPlans.{greatest_start, greatest_next, greatest_end}
use Rattle.pool_slots.proofs.areas.greatest_of.Goals as goal

pub loop-which-init : goal.loop-which-init
loop-which-init c = greatest_start c.args.labels.now c.args.least

pub loop-which-preserved : goal.loop-which-preserved
loop-which-preserved c =
    greatest_next c.args.labels.now c.args.least c.loop-which.which c.loop-which.greatest c.greater-greatest.result c.loop-which-test.true c.loop-which.invariant c.greater-greatest.ensures

pub returns : goal.returns
returns c = greatest_end c.args.labels.now c.args.least c.loop-which.which c.loop-which.greatest (omega (arith, c.loop-which-test.false)) c.loop-which.invariant
