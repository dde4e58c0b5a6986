use Rattle.std.proofs.Common.{◌≡◌, ℕ, ◌+◌, ◌<◌, length, slice_index}
use Rattle.raidz_parity.proofs.sums.last_lanes.Given as goal

abbrev pub invariant-loop-k : goal.invariant-loop-k
invariant-loop-k l = record {
  long : length l.bytes ≡ 64;
  read : (j : ℕ) → j < l.k → slice_index l.bytes j ≡ slice_index l.column (l.at + j);
}
