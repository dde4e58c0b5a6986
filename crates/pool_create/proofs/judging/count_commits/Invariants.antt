use Rattle.std.proofs.Common.{◌≡◌, ◌≤◌, ◌+◌, drop, length}
use Rattle.pool_model.specs.Groups.{commits}
use Rattle.pool_create.proofs.judging.count_commits.Given as goal

abbrev pub invariant-loop-i : goal.invariant-loop-i
invariant-loop-i l = (l.count + length (commits (drop l.i l.replies)) ≡ length (commits l.replies)) × (l.count ≤ l.i)
