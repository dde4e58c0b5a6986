use Rattle.std.proofs.Common.{arith}
use Rattle.raidz_io.specs.Stands.{all_columns}
use Rattle.scrub_resilver.proofs.Mended.{goes_on, one_more_mended, repairs_none, repairs_on}
use Rattle.scrub_resilver.proofs.mending.mend_copy.Goals as goal

pub loop-column-init : goal.loop-column-init
loop-column-init g c = record { mends = repairs_none _ _ _; mended = λ k below column bytes at at'. absurd (omega (arith, below)) }

pub returns-in_err-mend_column-clause-mends : goal.returns-in_err-mend_column-clause-mends
returns-in_err-mend_column-clause-mends g c =
    repairs_on _ _ c.args.disks.now c.loop-column.disks c.mend_column.new.disks c.loop-column.invariant.mends c.in_err-mend_column.ensures.mends

pub loop-column-preserved : goal.loop-column-preserved
loop-column-preserved g c = record {
  mends = repairs_on _ _ c.args.disks.now c.loop-column.disks c.mend_column.new.disks c.loop-column.invariant.mends c.in_ok-mend_column.ensures.mends;
  mended = one_more_mended c.args.disks.now c.loop-column.disks c.mend_column.new.disks c.args.missing.now c.args.extent c.args.spread.now.layout.items
      (all_columns c.args.spread.now.columns) c.loop-column.column
      (goes_on _ _ _ _ c.loop-column.invariant.mends) (goes_on _ _ _ _ c.in_ok-mend_column.ensures.mends) c.loop-column.invariant.mended c.in_ok-mend_column.ensures.mended;
}
