use Rattle.std.proofs.Common.{◌≡◌}
use Rattle.thread_runs.proofs.syncing.quiesce_groups.Given as goal

abbrev pub invariant-loop : goal.invariant-loop
invariant-loop g l = l.quiescer.shares.steps.parts ≡ l.fn.shares.steps.parts
