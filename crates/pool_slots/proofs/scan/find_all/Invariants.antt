use Rattle.std.proofs.Common.{◌≡◌, length}
use Rattle.pool_slots.specs.Slots.{InUse}
use Rattle.pool_slots.proofs.Finding.{AreScanned}
use Rattle.pool_slots.specs.Reads.{OnlyReads, nowhere}
use Rattle.pool_slots.proofs.scan.find_all.Given as goal

abbrev pub invariant-loop-which : goal.invariant-loop-which
invariant-loop-which g l = record {
  only : OnlyReads (InUse l.out) nowhere l.fn.disks l.disks;
  count : length l.all.items ≡ l.which;
  scanned : AreScanned l.out l.fn.disks l.disks l.all.items;
}
