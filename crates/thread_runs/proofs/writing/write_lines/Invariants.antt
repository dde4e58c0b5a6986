use Rattle.std.proofs.Common.{◌≡◌}
use Rattle.thread_runs.proofs.writing.write_lines.Given as goal

abbrev pub invariant-loop : goal.invariant-loop
invariant-loop g l = l.shares.steps.parts ≡ l.fn.shares.steps.parts
