use Rattle.std.proofs.Common.{◌≡◌, ◌+◌, vec_len}
use Rattle.thread_runs.proofs.Casting.{AreCasting}
use Rattle.thread_runs.proofs.dealing.roles_for.Given as goal

abbrev pub invariant-loop-stack : goal.invariant-loop-stack
invariant-loop-stack l = record {
  count : vec_len l.roles + vec_len l.stacks ≡ l.fn.threads + 2;
  casting : AreCasting l.fn.threads l.fn.lines.items l.stacks.items l.roles.items;
}

abbrev pub decreases-loop-stack : goal.decreases-loop-stack
decreases-loop-stack l = vec_len l.stacks
