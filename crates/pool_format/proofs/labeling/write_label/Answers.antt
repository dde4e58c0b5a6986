use Rattle.std.proofs.Common.{Result, Ok, Err, refl, subst}
use Rattle.model_disk.specs.Call.{Wrote, FailedWrite}
use Rattle.model_disk.specs.Joint.{bytes_of, content}
use Rattle.std.specs.Prelude.{length}
use Rattle.vdev_label.specs.Area.{area_of}
use Rattle.vdev_label.specs.Plain.{label_view}
use Rattle.vdev_label.specs.Reads.{WritesArea, place_of}
use Rattle.vdev_label.specs.declared.refusal.Refusal.{Refusal as LabelRefusal}
use Rattle.vdev_label.specs.declared.refusal.Refusal.TheVariants as label
use Rattle.pool_format.proofs.Failures.{answered_one, failed_one, none_made}
use Rattle.pool_format.proofs.Writes.{area_makes, stands_shown}
use Rattle.pool_format.proofs.labeling.write_label.Goals as goal

pub returns-in-Ok-clause-makes : goal.returns-in-Ok-clause-makes
returns-in-Ok-clause-makes g c =
    let r : Result (Unit {0}) LabelRefusal = Ok tt in
    area_makes r c.args.disks.now c.write_label.new.disks c.args.which c.args.number (label_view c.args.label.now) c.requires.number c.write_label.ensures.starts c.in-Ok.ensures.calls

pub returns-in-Ok-clause-shown : goal.returns-in-Ok-clause-shown
returns-in-Ok-clause-shown g c =
    stands_shown (length (bytes_of c.args.disks.now.starts c.args.which)) c.args.number (content c.write_label.new.disks c.args.which) (label_view c.args.label.now) c.requires.number c.requires.valid
    c.in-Ok.ensures.stands

pub returns-in-Ok-clause-failed : goal.returns-in-Ok-clause-failed
returns-in-Ok-clause-failed g c =
    answered_one c.args.disks.now c.write_label.new.disks c.args.which (Wrote (place_of c.args.disks.now c.args.which c.args.number) (area_of (label_view c.args.label.now))) c.in-Ok.ensures.calls refl

pub returns-in-Err-DiskFault-clause-makes : goal.returns-in-Err-DiskFault-clause-makes
returns-in-Err-DiskFault-clause-makes g c =
    let l = label_view c.args.label.now in
    let P : LabelRefusal → Type 0 = λ r. WritesArea c.args.disks.now c.write_label.new.disks c.args.which c.args.number (area_of l) (Err r) in
    let r : Result (Unit {0}) LabelRefusal = Err label.DiskFault in
    area_makes r c.args.disks.now c.write_label.new.disks c.args.which c.args.number l c.requires.number c.write_label.ensures.starts
    (subst P c.in-Err-DiskFault.field-0-is c.in-Err-DiskFault.ensures.calls)

pub returns-in-Err-DiskFault-clause-failed : goal.returns-in-Err-DiskFault-clause-failed
returns-in-Err-DiskFault-clause-failed g c =
    let l = label_view c.args.label.now in
    let P : LabelRefusal → Type 0 = λ r. WritesArea c.args.disks.now c.write_label.new.disks c.args.which c.args.number (area_of l) (Err r) in
    failed_one c.args.disks.now c.write_label.new.disks c.args.which (FailedWrite (place_of c.args.disks.now c.args.which c.args.number) (area_of l))
    (subst P c.in-Err-DiskFault.field-0-is c.in-Err-DiskFault.ensures.calls) refl

pub returns-in-Err-NoMemory-clause-failed : goal.returns-in-Err-NoMemory-clause-failed
returns-in-Err-NoMemory-clause-failed g c =
    let P : LabelRefusal → Type 0 = λ r. WritesArea c.args.disks.now c.write_label.new.disks c.args.which c.args.number (area_of (label_view c.args.label.now)) (Err r) in
    none_made c.args.disks.now c.write_label.new.disks (subst P c.in-Err-NoMemory.field-0-is c.in-Err-NoMemory.ensures.calls)
