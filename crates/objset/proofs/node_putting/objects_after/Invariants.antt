use Rattle.std.proofs.Common.{ℕ, ◌<◌, ◌≤◌, All, take}
use Rattle.objset.proofs.node_putting.objects_after.Given as goal

abbrev pub invariant-loop-write : goal.invariant-loop-write
invariant-loop-write l = record {
  from : l.before ≤ l.objects;
  room : All (λ write. write.number < l.objects) (take l.write-index l.writes);
  least : (objects : ℕ) → l.before ≤ objects → All (λ write. write.number < objects) l.writes → l.objects ≤ objects;
}
