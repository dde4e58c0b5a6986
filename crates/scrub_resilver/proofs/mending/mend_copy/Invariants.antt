use Rattle.raidz_io.specs.Stands.{all_columns}
use Rattle.scrub_resilver.specs.Mending.{AreMendedBelow, IsColumnIn, Repairs}
use Rattle.scrub_resilver.proofs.mending.mend_copy.Given as goal

abbrev pub invariant-loop-column : goal.invariant-loop-column
invariant-loop-column g l = record {
  mends : Repairs (IsColumnIn l.extent l.spread.layout.items (all_columns l.spread.columns)) l.missing l.fn.disks l.disks;
  mended : AreMendedBelow l.fn.disks l.disks l.missing l.extent l.spread.layout.items (all_columns l.spread.columns) l.column;
}
