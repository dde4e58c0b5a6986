use Rattle.std.proofs.Common.{◌≡◌, vec_len}
use Rattle.thread_runs.specs.Printing.{PrintsRecords}
use Rattle.thread_runs.proofs.rounds.play_on.Given as goal

abbrev pub invariant-loop : goal.invariant-loop
invariant-loop g l = record {
  printed : PrintsRecords g.C.PoolSteps (g.W.Write.contents l.fn.output) (g.W.Write.contents l.output);
  parts : l.all.steps.parts ≡ l.fn.all.steps.parts;
  len : vec_len l.roles ≡ vec_len l.fn.roles;
}
