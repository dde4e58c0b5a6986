use Rattle.std.proofs.Common.{Err, ap, sym, subst}
use Rattle.vdev_label.specs.Reads.{ReadsLabel}
use Rattle.vdev_label.specs.declared.refusal.Refusal.{Refusal as LabelRefusal}
use Rattle.vdev_label.specs.declared.refusal.Refusal.TheVariants as label
use Rattle.pool_slots.proofs.LabelAreas.{label_read}
use Rattle.pool_slots.proofs.ReadRuns.{reads_any}
use Rattle.pool_labels.specs.Scans.{IsScannedLabel}
use Rattle.pool_labels.specs.declared.scanned.ScannedLabel.{ScannedLabel}
use Rattle.pool_labels.proofs.Readings.{only_label, scanned_bad, scanned_unread, scanned_valid}
use Rattle.pool_labels.proofs.scanning.scan_label.Goals as goal

pub returns-in-Ok-clause-only : goal.returns-in-Ok-clause-only
returns-in-Ok-clause-only g c = reads_any (label_read c.args.disks.now c.read_label.new.disks c.args.which c.args.number c.in-Ok.label c.read_label.ensures.starts c.in-Ok.ensures.calls)

pub returns-in-Ok-clause-scans : goal.returns-in-Ok-clause-scans
returns-in-Ok-clause-scans g c =
    let P : ScannedLabel → Type 0 = IsScannedLabel c.args.disks.now c.read_label.new.disks in (
      ap (λ (s : ScannedLabel). s.disk) c.scanned.ensures,
      ap (λ (s : ScannedLabel). s.number) c.scanned.ensures,
      subst P (sym c.scanned.ensures)
          (scanned_valid c.args.disks.now c.read_label.new.disks c.args.which c.args.number c.in-Ok.label c.requires.room c.requires.number c.read_label.ensures.starts c.in-Ok.ensures.calls),
    )

pub returns-in-Err-BadLabel-clause-only : goal.returns-in-Err-BadLabel-clause-only
returns-in-Err-BadLabel-clause-only g c =
    let P : LabelRefusal → Type 0 = λ r. ReadsLabel c.args.disks.now c.read_label.new.disks c.args.which c.args.number (Err r) in
    only_label c.args.disks.now c.read_label.new.disks c.args.which c.args.number (label.BadLabel c.in-Err-BadLabel.breach) _ c.read_label.ensures.starts
    (subst P c.in-Err-BadLabel.field-0-is c.in-Err-BadLabel.ensures.calls) (λ w fault. absurd fault)

pub returns-in-Err-BadLabel-clause-scans : goal.returns-in-Err-BadLabel-clause-scans
returns-in-Err-BadLabel-clause-scans g c =
    let P : ScannedLabel → Type 0 = IsScannedLabel c.args.disks.now c.read_label.new.disks in
    let Q : LabelRefusal → Type 0 = λ r. ReadsLabel c.args.disks.now c.read_label.new.disks c.args.which c.args.number (Err r) in (
      ap (λ (s : ScannedLabel). s.disk) c.scanned-in-Err-BadLabel.ensures,
      ap (λ (s : ScannedLabel). s.number) c.scanned-in-Err-BadLabel.ensures,
      subst P (sym c.scanned-in-Err-BadLabel.ensures)
          (scanned_bad c.args.disks.now c.read_label.new.disks c.args.which c.args.number c.in-Err-BadLabel.breach c.requires.room c.requires.number c.read_label.ensures.starts
          (subst Q c.in-Err-BadLabel.field-0-is c.in-Err-BadLabel.ensures.calls)),
    )

pub returns-in-Err-DiskFault-clause-only : goal.returns-in-Err-DiskFault-clause-only
returns-in-Err-DiskFault-clause-only g c =
    let P : LabelRefusal → Type 0 = λ r. ReadsLabel c.args.disks.now c.read_label.new.disks c.args.which c.args.number (Err r) in
    only_label c.args.disks.now c.read_label.new.disks c.args.which c.args.number label.DiskFault _ c.read_label.ensures.starts
    (subst P c.in-Err-DiskFault.field-0-is c.in-Err-DiskFault.ensures.calls) (λ w fault. ap (λ (s : ScannedLabel). s.reading) c.scanned-in-Err-DiskFault.ensures)

pub returns-in-Err-DiskFault-clause-scans : goal.returns-in-Err-DiskFault-clause-scans
returns-in-Err-DiskFault-clause-scans g c =
    let P : ScannedLabel → Type 0 = IsScannedLabel c.args.disks.now c.read_label.new.disks in
    let Q : LabelRefusal → Type 0 = λ r. ReadsLabel c.args.disks.now c.read_label.new.disks c.args.which c.args.number (Err r) in (
      ap (λ (s : ScannedLabel). s.disk) c.scanned-in-Err-DiskFault.ensures,
      ap (λ (s : ScannedLabel). s.number) c.scanned-in-Err-DiskFault.ensures,
      subst P (sym c.scanned-in-Err-DiskFault.ensures)
          (scanned_unread c.args.disks.now c.read_label.new.disks c.args.which c.args.number c.requires.number (subst Q c.in-Err-DiskFault.field-0-is c.in-Err-DiskFault.ensures.calls)),
    )

pub returns-in-Err-NoMemory-clause-only : goal.returns-in-Err-NoMemory-clause-only
returns-in-Err-NoMemory-clause-only g c =
    let P : LabelRefusal → Type 0 = λ r. ReadsLabel c.args.disks.now c.read_label.new.disks c.args.which c.args.number (Err r) in
    only_label c.args.disks.now c.read_label.new.disks c.args.which c.args.number label.NoMemory _ c.read_label.ensures.starts
    (subst P c.in-Err-NoMemory.field-0-is c.in-Err-NoMemory.ensures.calls) (λ w fault. tt)
