use Rattle.std.proofs.Common.{ℕ, ◌<◌, ◌≤◌, ◌^◌, All, take}
use Rattle.dnode_tree.proofs.putting.highest_of.Given as goal

abbrev pub invariant-loop-write : goal.invariant-loop-write
invariant-loop-write l = record {
  small : l.highest < 128 ^ 5;
  from : l.before ≤ l.highest;
  room : All (λ write. write.id ≤ l.highest) (take l.write-index l.writes);
  least : (highest : ℕ) → l.before ≤ highest → All (λ write. write.id ≤ highest) l.writes → l.highest ≤ highest;
}
