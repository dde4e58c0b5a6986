use Rattle.std.proofs.Common.{◌≤◌, ◌<◌, ℕ, slice_index}
use Rattle.raidz_parity.proofs.sums.common_length.Given as goal

abbrev pub invariant-loop-length : goal.invariant-loop-length
invariant-loop-length l = record {
  rows : l.common ≤ l.rows;
  columns : (i : ℕ) → i < l.length-index → l.common ≤ slice_index l.lengths i;
}
