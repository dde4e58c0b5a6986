use Rattle.std.proofs.Common.{◌≡◌, ◌-◌, ◌<◌, ◌≤◌, ℕ, length, slice_index}
use Rattle.raidz_parity.specs.Layout.{columns_of}
use Rattle.raidz_parity.specs.Parity.{weighted_sum_at}
use Rattle.raidz_parity.proofs.sums.fill_both.Given as goal

abbrev pub invariant-loop-at : goal.invariant-loop-at
invariant-loop-at l = record {
  within : l.at ≤ l.common;
  rows : l.common ≤ length l.first;
  rows' : length l.second ≡ length l.first;
  first_done : (j : ℕ) → j < l.at → slice_index l.first j ≡ weighted_sum_at 0 (columns_of l.lengths l.bytes) j;
  second_done : (j : ℕ) → j < l.at → slice_index l.second j ≡ weighted_sum_at 1 (columns_of l.lengths l.bytes) j;
}

abbrev pub decreases-loop-at : goal.decreases-loop-at
decreases-loop-at l = l.common - l.at
