use Rattle.std.proofs.Common.{◌≡◌, suc, ◌+◌, length, refl, arith}
use Rattle.pool_labels.proofs.ScanSteps.{only_more, scan_done, scan_next, scan_none, scan_same}
use Rattle.pool_labels.proofs.scanning.scan.Goals as goal

pub loop-which-init : goal.loop-which-init
loop-which-init g c = scan_same c.args.disks.now c.args.disks.now 0 0 _ _ _ _ _ _ refl c.new-scan.ensures.disks c.new-scan.ensures.labels c.new-scan.ensures.slots (scan_none c.args.disks.now)

pub loop-which-preserved : goal.loop-which-preserved
loop-which-preserved g c =
    let first = c.args.disks.now in
    let loop = c.loop-which.disks in
    let new = c.scan_disk.new.disks in
    let n = c.loop-which.which in
    let count : n + 1 ≡ suc n = omega arith in
    scan_same first new (suc n) (n + 1) _ _ _ _ _ _ count c.in_ok-add.ensures.disks c.in_ok-add.ensures.labels c.in_ok-add.ensures.slots
    (scan_next first loop new n c.loop-which.scan.disks.items c.loop-which.scan.labels.items c.loop-which.scan.slots.items c.in_ok-disk.disk c.loop-which.invariant c.in_ok-disk.ensures.only
    c.in_ok-disk.ensures.scans c.scan_disk.ensures.few)

pub returns-in_err-disk-clause-only : goal.returns-in_err-disk-clause-only
returns-in_err-disk-clause-only g c =
    only_more c.args.disks.now c.loop-which.disks c.scan_disk.new.disks c.loop-which.which c.loop-which.scan.disks.items c.loop-which.scan.labels.items c.loop-which.scan.slots.items c.loop-which.invariant
    c.in_err-disk.ensures.only

pub returns-in_err-add-clause-only : goal.returns-in_err-add-clause-only
returns-in_err-add-clause-only g c =
    only_more c.args.disks.now c.loop-which.disks c.scan_disk.new.disks c.loop-which.which c.loop-which.scan.disks.items c.loop-which.scan.labels.items c.loop-which.scan.slots.items c.loop-which.invariant
    c.in_ok-disk.ensures.only

pub returns-clause-scans : goal.returns-clause-scans
returns-clause-scans g c =
    let count : c.loop-which.which ≡ length c.args.disks.now.starts = omega (arith, c.loop-which-test.false, c.loop-which.auto.which-end, c.len-which-end.ensures) in
    scan_done c.args.disks.now c.loop-which.disks c.loop-which.which c.loop-which.scan count c.loop-which.invariant
