use Rattle.std.proofs.Common.{◌∙◌, List, Ok, subst}
use Rattle.pool_labels.specs.Scans.{AreLost, HasUnreadable, ScansSlotsOf}
use Rattle.pool_labels.specs.declared.scanned.ScannedLabel.{ScannedLabel}
use Rattle.pool_labels.proofs.ScanSteps.{both_read, disk_scanned, is_lost}
use Rattle.pool_labels.proofs.scanning.read_disk.Goals as goal

pub returns-in_err-slots-clause-only : goal.returns-in_err-slots-clause-only
returns-in_err-slots-clause-only g c = both_read c.in_ok-labels.ensures.only c.in_err-slots.ensures.only

pub returns-clause-only : goal.returns-clause-only
returns-clause-only g c = both_read c.in_ok-labels.ensures.only c.in_ok-slots.ensures.only

pub returns-clause-scans : goal.returns-clause-scans
returns-clause-scans g c =
    let labels = c.in_ok-labels.labels.items in
    let slots = c.in_ok-slots.slots in
    let mid = c.scan_labels.new.disks in
    let new = c.scan_slots_of.new.disks in
    let P : List ScannedLabel → Type 0 = λ them. ScansSlotsOf them mid new c.args.which slots in
    disk_scanned c.args.disks.now mid new c.args.which labels slots c.disk_scan.result (λ w. HasUnreadable labels) (AreLost (Ok slots)) c.requires.size c.in_ok-labels.ensures.unread
    c.in_ok-slots.ensures.only (λ it. it) (is_lost slots c.args.which) c.in_ok-labels.ensures.scans.0 c.in_ok-labels.ensures.scans.1 c.in_ok-labels.ensures.scans.2
    (subst P c.deref.ensures.value c.in_ok-slots.ensures.scans) (c.disk_scan.ensures.size ∙ c.size-size.ensures) c.disk_scan.ensures.failed c.disk_scan.ensures.labels c.disk_scan.ensures.slots
