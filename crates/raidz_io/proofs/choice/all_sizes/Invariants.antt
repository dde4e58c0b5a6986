use Rattle.std.proofs.Common.{◌≡◌, ◌++◌, replicate, slice_index}
use Rattle.raidz_io.specs.Places.{sizes_of}
use Rattle.raidz_io.proofs.choice.all_sizes.Given as goal

abbrev pub invariant-loop-row : goal.invariant-loop-row
invariant-loop-row l = l.all.items ≡ sizes_of l.data ++ replicate l._row (slice_index (sizes_of l.data) 0)
