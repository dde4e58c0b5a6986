use Rattle.model_disk.specs.Joint.{content}
use Rattle.pool_slots.specs.Labels.{AreasStand, InAreaTurn, IsAreaWrite}
use Rattle.pool_slots.specs.Slots.{InUse, MakesOn}
use Rattle.pool_slots.proofs.LabelWrites.{below_index, by_disk}
use Rattle.pool_slots.proofs.label_writes.write_areas.Given as goal

abbrev pub invariant-loop-which : goal.invariant-loop-which
invariant-loop-which g l = record {
  makes : MakesOn (InUse l.out) (IsAreaWrite l.fn.disks.starts (InAreaTurn l.areas l.first)) l.fn.disks l.disks;
  stand : AreasStand (content l.disks) l.fn.disks.starts (below_index by_disk l.which (InAreaTurn l.areas l.first));
}
