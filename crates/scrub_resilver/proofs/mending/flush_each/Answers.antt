use Rattle.scrub_resilver.proofs.Mended.{flushed_none, flushed_well, goes_on, one_more_failed, one_more_flushed, repairs_none, repairs_on}
use Rattle.scrub_resilver.proofs.mending.flush_each.Goals as goal
use Rattle.scrub_resilver.proofs.mending.flush_each.Goals.{then-not-flush_one+in_ok-push, else-not-flush_one}

pub loop-disk-init : goal.loop-disk-init
loop-disk-init g c = record {
  mends = repairs_none _ _ _;
  flushed = rw c.new-failed.ensures.items (flushed_none c.args.disks.now c.args.missing.now);
}

pub returns-in_err-push-clause-mends : goal.returns-in_err-push-clause-mends
returns-in_err-push-clause-mends g c =
    repairs_on _ _ c.args.disks.now c.loop-disk.disks c.flush_one.new.disks c.loop-disk.invariant.mends (flushed_well _ _ _ _ _ c.flush_one.ensures).repairs

pub loop-disk-preserved : goal.loop-disk-preserved
loop-disk-preserved g c = record {
  mends = repairs_on _ _ c.args.disks.now c.loop-disk.disks c.flush_one.new.disks c.loop-disk.invariant.mends (flushed_well _ _ _ _ _ c.flush_one.ensures).repairs;
  flushed = elim c.if-not-flush_one.branch [
    | then-not-flush_one+in_ok-push w ↦
        rw (w.failed-is, w.in_ok-push.ensures.items) (one_more_failed c.args.disks.now c.loop-disk.disks c.flush_one.new.disks c.args.missing.now c.loop-disk.failed.items
        c.loop-disk.disk c.flush_one.result w.if-not-flush_one.true (goes_on _ _ _ _ c.loop-disk.invariant.mends) (flushed_well _ _ _ _ _ c.flush_one.ensures)
        c.loop-disk.invariant.flushed)
    | else-not-flush_one w ↦
        rw w.failed-is (one_more_flushed c.args.disks.now c.loop-disk.disks c.flush_one.new.disks c.args.missing.now c.loop-disk.failed.items
        c.loop-disk.disk c.flush_one.result w.if-not-flush_one.false (goes_on _ _ _ _ c.loop-disk.invariant.mends) (flushed_well _ _ _ _ _ c.flush_one.ensures)
        c.loop-disk.invariant.flushed)
  ];
}
