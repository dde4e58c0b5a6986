use Rattle.std.proofs.Common.{◌≡◌, take}
use Rattle.raidz_io.proofs.choice.with_column.Given as goal

abbrev pub invariant-loop-column : goal.invariant-loop-column
invariant-loop-column l = l.more.items ≡ take l.column-index l.wrong
