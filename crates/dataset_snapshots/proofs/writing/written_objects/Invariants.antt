use Rattle.std.proofs.Common.{◌↔◌, ℕ, take, Contains}
use Rattle.dataset_snapshots.specs.Writing.{IsWrittenBut}
use Rattle.dataset_snapshots.proofs.writing.written_objects.Given as goal

-- the objects that the writes so far name, but for those that are destroyed
abbrev pub invariant-loop-write : goal.invariant-loop-write
invariant-loop-write l = (object : ℕ) → Contains l.objects.items object ↔ IsWrittenBut l.directory l.destroyed (take l.write-index l.writes) object
