use Rattle.std.proofs.Common.{◌≡◌}
use Rattle.thread_runs.specs.Printing.{PrintsRecords}
use Rattle.thread_runs.proofs.record.take_all.Given as goal

abbrev pub invariant-loop-step : goal.invariant-loop-step
invariant-loop-step g l = record {
  can : (goal.iterator-loop-step g).can_next l.step-iterator;
  finite : (goal.iterator-loop-step g).is_finite l.step-iterator;
  printed : PrintsRecords g.C.PoolSteps (g.W.Write.contents l.fn.output) (g.W.Write.contents l.output);
  parts : l.all.steps.parts ≡ l.fn.all.steps.parts;
}
