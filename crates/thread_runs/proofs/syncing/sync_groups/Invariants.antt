use Rattle.std.proofs.Common.{◌≡◌}
use Rattle.thread_runs.proofs.syncing.sync_groups.Given as goal

abbrev pub invariant-loop : goal.invariant-loop
invariant-loop g l = l.syncer.shares.steps.parts ≡ l.fn.shares.steps.parts
