use Rattle.std.proofs.Common.{◌≡◌}
use Rattle.disk_set.proofs.making.make_each.Given as goal

abbrev pub invariant-loop-place : goal.invariant-loop-place
invariant-loop-place l = l.due.items ≡ l.fn.due.items
