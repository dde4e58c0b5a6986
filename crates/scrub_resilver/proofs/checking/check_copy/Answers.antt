use Rattle.std.proofs.Common.{get_or, refl, arith}
use Rattle.raidz_io.specs.Stands.{all_columns}
use Rattle.raidz_io.proofs.Calls.{OnlyReads-none}
use Rattle.scrub_resilver.proofs.Found.{checked_more, checked_none}
use Rattle.scrub_resilver.proofs.Logs.{reads_on, untouched_on}
use Rattle.scrub_resilver.proofs.Placing.{named_at, taken}
use Rattle.scrub_resilver.proofs.checking.check_copy.Goals as goal

pub loop-column-init : goal.loop-column-init
loop-column-init g c = record {
  reads = OnlyReads-none c.args.disks.now;
  untouched = λ disk _. refl;
  so_far = checked_none c.args.disks.now c.args.missing.now c.args.copy.vdev c.args.copy.extent c.args.is_known _ _ c.args.found.now.items;
}

pub returns-in_err-fault-clause-reads : goal.returns-in_err-fault-clause-reads
returns-in_err-fault-clause-reads g c =
    reads_on c.args.disks.now c.loop-column.disks c.look_at_column.new.disks c.loop-column.invariant.reads c.in_err-fault.ensures.reads

pub add-requires : goal.add-requires
add-requires g c =
    named_at c.args.copy.extent c.args.spread.now.layout.items c.as_slice.result.now c.loop-column.column (record { child = 0; sector = 0; sectors = 0 })
    c.as_slice.ensures.value c.requires.fits c.requires.spread.1.is_layout (omega (arith, c.loop-column-test.true, c.len-column-end.ensures))

pub returns-in_err-add-clause-reads : goal.returns-in_err-add-clause-reads
returns-in_err-add-clause-reads g c =
    reads_on c.args.disks.now c.loop-column.disks c.look_at_column.new.disks c.loop-column.invariant.reads c.in_ok-fault.ensures.reads

pub loop-column-preserved : goal.loop-column-preserved
loop-column-preserved g c = record {
  reads = reads_on c.args.disks.now c.loop-column.disks c.look_at_column.new.disks c.loop-column.invariant.reads c.in_ok-fault.ensures.reads;
  untouched =
      untouched_on c.args.missing.now c.args.disks.now c.loop-column.disks c.look_at_column.new.disks c.loop-column.invariant.untouched c.in_ok-fault.ensures.untouched;
  so_far =
      checked_more c.args.disks.now c.loop-column.disks c.look_at_column.new.disks c.args.missing.now c.args.copy.vdev c.args.copy.extent c.args.is_known
      c.args.spread.now.layout.items (all_columns c.args.spread.now.columns) c.loop-column.column c.args.found.now.items c.loop-column.found.items _
      (get_or c.as_slice.result.now c.loop-column.column (record { child = 0; sector = 0; sectors = 0 })) c.in_ok-fault.fault c.loop-column.invariant.reads
      c.in_ok-fault.ensures.reads c.loop-column.invariant.so_far
      c.in_ok-fault.ensures.judged
      (taken c.args.spread.now.layout.items c.as_slice.result.now c.loop-column.column (record { child = 0; sector = 0; sectors = 0 }) c.as_slice.ensures.value (omega (arith, c.loop-column-test.true, c.len-column-end.ensures)))
      c.in_ok-add.ensures;
}
