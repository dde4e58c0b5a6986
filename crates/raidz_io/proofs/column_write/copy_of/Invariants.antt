use Rattle.std.proofs.Common.{◌≡◌, take}
use Rattle.raidz_io.proofs.column_write.copy_of.Given as goal

abbrev pub invariant-loop-length : goal.invariant-loop-length
invariant-loop-length l = l.copy.items ≡ take l.length-index l.lengths
