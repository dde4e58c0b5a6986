use Rattle.std.proofs.Common.{◌≡◌, take}
use Rattle.pool_commit.proofs.last.marks_of.Given as goal

abbrev pub invariant-loop-disk : goal.invariant-loop-disk
invariant-loop-disk g l = l.marks.items ≡ take l.disk l.store.out
