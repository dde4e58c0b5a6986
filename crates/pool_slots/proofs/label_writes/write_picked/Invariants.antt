use Rattle.model_disk.specs.Joint.{content}
use Rattle.pool_slots.specs.Labels.{AreasStand, IsAreaWrite, copies}
use Rattle.pool_slots.specs.Slots.{MakesOn, is_disk}
use Rattle.pool_slots.proofs.LabelWrites.{below_index, by_label}
use Rattle.pool_slots.proofs.label_writes.write_picked.Given as goal

abbrev pub invariant-loop-number : goal.invariant-loop-number
invariant-loop-number g l = record {
  makes : MakesOn (is_disk l.which) (IsAreaWrite l.fn.disks.starts (copies l.which l.area l.pick)) l.fn.disks l.disks;
  stand : AreasStand (content l.disks) l.fn.disks.starts (below_index by_label l.number (copies l.which l.area l.pick));
}
