use Rattle.raidz_io.specs.Reads.{AreUntouched, OnlyReads}
use Rattle.raidz_io.specs.Stands.{all_columns}
use Rattle.scrub_resilver.specs.Looking.{IsCheckedSoFar}
use Rattle.scrub_resilver.proofs.checking.check_copy.Given as goal

abbrev pub invariant-loop-column : goal.invariant-loop-column
invariant-loop-column g l = record {
  reads : OnlyReads l.fn.disks l.disks;
  untouched : AreUntouched l.missing l.fn.disks l.disks;
  so_far : IsCheckedSoFar l.fn.disks l.disks l.missing l.copy.vdev l.copy.extent l.is_known l.spread.layout.items (all_columns l.spread.columns) l.column l.fn.found.items l.found.items;
}
