use Rattle.std.proofs.Common.{ℕ, ◌≡◌, ◌+◌, ◌<◌, ◌≤◌, length, take, Contains, All}
use Rattle.raidz_io.proofs.rebuild.unread.Given as goal

abbrev pub invariant-loop-column : goal.invariant-loop-column
invariant-loop-column l = l.unread.items ≡ take l.column-index l.column-items

abbrev pub invariant-loop-column-2 : goal.invariant-loop-column-2
invariant-loop-column-2 l = record {
  len : length l.unread.items + l.read.count ≡ length l.read.lost.items + l.column;
  lost : (k : ℕ) → Contains l.read.lost.items k → Contains l.unread.items k;
  unread : (k : ℕ) → l.read.count ≤ k → k < l.column → Contains l.unread.items k;
  below : All (λ k. k < l.fn.count) l.read.lost.items → All (λ k. k < l.fn.count) l.unread.items;
}
