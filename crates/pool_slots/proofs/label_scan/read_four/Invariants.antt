use Rattle.std.proofs.Common.{◌≡◌, length}
use Rattle.pool_slots.specs.Slots.{is_disk}
use Rattle.pool_slots.proofs.LabelScans.{AreReadTo}
use Rattle.pool_slots.specs.Reads.{OnlyReads, nowhere}
use Rattle.pool_slots.proofs.label_scan.read_four.Given as goal

abbrev pub invariant-loop-number : goal.invariant-loop-number
invariant-loop-number g l = record {
  only : OnlyReads (is_disk l.which) nowhere l.fn.disks l.disks;
  count : length l.all.items ≡ l.number;
  read : AreReadTo l.fn.disks l.disks l.which l.all.items;
}
