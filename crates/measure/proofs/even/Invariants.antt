use Rattle.std.proofs.Common.{◌≡◌, replicate}
use Rattle.measure.proofs.even.Given as goal

abbrev pub invariant-loop-column : goal.invariant-loop-column
invariant-loop-column l = l.lengths.items ≡ replicate l._column l.size
