use Rattle.std.proofs.Common.{◌≡◌, length}
use Rattle.pool_slots.specs.Slots.{InUse}
use Rattle.pool_slots.proofs.LabelScans.{AreLabelsScanned}
use Rattle.pool_slots.specs.Reads.{OnlyReads, nowhere}
use Rattle.pool_slots.proofs.label_scan.read_labels.Given as goal

abbrev pub invariant-loop-which : goal.invariant-loop-which
invariant-loop-which g l = record {
  only : OnlyReads (InUse l.out) nowhere l.fn.disks l.disks;
  count : length l.all.items ≡ l.which;
  scanned : AreLabelsScanned l.out l.digest l.fn.disks l.disks l.all.items;
}
