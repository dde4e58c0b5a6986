use Rattle.std.proofs.Common.{arith}
use Rattle.pool_labels.proofs.LabelLemmas.{bad_more, bad_none}
use Rattle.pool_labels.proofs.consistency.first_bad.Goals as goal

pub loop-label-preserved : goal.loop-label-preserved
loop-label-preserved c =
    bad_more c.args.labels.now c.loop-label.label-index c.label-item.result c.breach_of.result c.loop-label.invariant (omega (arith, c.loop-label-test.true)) c.label-item.is c.breach_of.ensures c.in-None.is

pub returns : goal.returns
returns c = bad_none c.args.labels.now c.loop-label.label-index (omega (arith, c.loop-label-test.false)) c.loop-label.invariant
