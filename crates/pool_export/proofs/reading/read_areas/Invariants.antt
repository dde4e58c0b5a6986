use Rattle.std.proofs.Common.{◌≡◌, length}
use Rattle.pool_slots.specs.Present.{is_out}
use Rattle.pool_slots.specs.Reads.{OnlyReads}
use Rattle.pool_slots.specs.Slots.{InUse}
use Rattle.pool_export.specs.Absence.{GoOutFailing}
use Rattle.pool_export.proofs.Scans.{AreScanned}
use Rattle.pool_export.proofs.reading.read_areas.Given as goal

abbrev pub invariant-loop-which : goal.invariant-loop-which
invariant-loop-which g l = record {
  absent : GoOutFailing l.fn.out.items l.out.items l.fn.disks l.disks;
  only : OnlyReads (InUse l.fn.out.items) (is_out l.out.items) l.fn.disks l.disks;
  count : length l.all.items ≡ l.which;
  scanned : AreScanned l.out.items l.uberblock l.fn.disks l.disks l.all.items;
}
