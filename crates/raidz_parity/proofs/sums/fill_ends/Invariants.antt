use Rattle.std.proofs.Common.{◌≡◌, ◌-◌, ◌<◌, ℕ, length, slice_index}
use Rattle.raidz_parity.specs.Layout.{columns_of}
use Rattle.raidz_parity.specs.Parity.{weighted_sum_at}
use Rattle.raidz_parity.proofs.sums.fill_ends.Given as goal

abbrev pub invariant-loop-at : goal.invariant-loop-at
invariant-loop-at l = (j : ℕ) → j < l.at → j < length l.target → slice_index l.target j ≡ weighted_sum_at l.row (columns_of l.lengths l.bytes) j

abbrev pub decreases-loop-at : goal.decreases-loop-at
decreases-loop-at l = length l.initial.target - l.at
