use Rattle.std.proofs.Common.{◌∙◌}
use Rattle.thread_runs.proofs.Printed.{prints_more}
use Rattle.thread_runs.proofs.record.take_all.Goals as goal

pub loop-step-preserved-in_ok-take : goal.loop-step-preserved-in_ok-take
loop-step-preserved-in_ok-take g c = record {
  can = tt;
  finite = tt;
  printed = prints_more g.C.PoolSteps (g.W.Write.contents c.args.output.now) (g.W.Write.contents c.loop-step.output) (g.W.Write.contents c.take.new.output) c.loop-step.invariant.printed c.in_ok-take.ensures.printed;
  parts = c.take.ensures.parts ∙ c.loop-step.invariant.parts;
}

pub loop-step-preserved : goal.loop-step-preserved
loop-step-preserved g c = record {
  can = tt;
  finite = tt;
  printed = prints_more g.C.PoolSteps (g.W.Write.contents c.args.output.now) (g.W.Write.contents c.loop-step.output) (g.W.Write.contents c.take.new.output) c.loop-step.invariant.printed c.in_ok-take.ensures.printed;
  parts = c.take.ensures.parts ∙ c.loop-step.invariant.parts;
}

pub loop-step-preserved-in_ok-take-2 : goal.loop-step-preserved-in_ok-take-2
loop-step-preserved-in_ok-take-2 g c = record {
  can = tt;
  finite = tt;
  printed = prints_more g.C.PoolSteps (g.W.Write.contents c.args.output.now) (g.W.Write.contents c.loop-step.output) (g.W.Write.contents c.take.new.output) c.loop-step.invariant.printed c.in_ok-take.ensures.printed;
  parts = c.take.ensures.parts ∙ c.loop-step.invariant.parts;
}
