use Rattle.std.proofs.Common.{◌≡◌, ℕ, ◌+◌, ◌<◌, length, slice_index}
use Rattle.raidz_parity.proofs.sums.put_last.Given as goal

abbrev pub invariant-loop-k : goal.invariant-loop-k
invariant-loop-k l = record {
  before : (j : ℕ) → j < l.at → slice_index l.target j ≡ slice_index l.initial.target j;
  here : (j : ℕ) → j < l.k → l.at + j < length l.target → slice_index l.target (l.at + j) ≡ slice_index l.bytes j;
}
