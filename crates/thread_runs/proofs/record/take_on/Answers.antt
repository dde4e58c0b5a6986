use Rattle.std.proofs.Common.{◌∙◌}
use Rattle.thread_runs.proofs.Printed.{prints_more}
use Rattle.thread_runs.proofs.record.take_on.Goals as goal

pub loop-preserved : goal.loop-preserved
loop-preserved g c = record {
  printed = prints_more g.C.PoolSteps (g.W.Write.contents c.args.output.now) (g.W.Write.contents c.loop.output) (g.W.Write.contents c.take-in-loop.new.output) c.loop.invariant.printed c.in_ok-reply-2.ensures.printed;
  parts = c.take-in-loop.ensures.parts ∙ c.loop.invariant.parts;
}
