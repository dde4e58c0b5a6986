use Rattle.std.proofs.Common.{◌≡◌, take}
use Rattle.raidz_io.specs.Places.{sizes_of}
use Rattle.scrub_resilver.proofs.spread.sizes.Given as goal

abbrev pub invariant-loop-column : goal.invariant-loop-column
invariant-loop-column l = l.sizes.items ≡ sizes_of (take l.column-index l.columns)
