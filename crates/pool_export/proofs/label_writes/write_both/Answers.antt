use Rattle.std.proofs.Common.{inl, ◌+◌, Result, length, refl, arith}
use Rattle.pool_slots.specs.Writes.{InHalf}
use Rattle.model_disk.specs.Call.{FailedWrite, Wrote}
use Rattle.model_disk.specs.Joint.{bytes_of}
use Rattle.pool_slots.specs.Labels.{area_place}
use Rattle.pool_export.proofs.Absence.{answers_one, ends_next, ends_write, fails_one}
use Rattle.pool_export.specs.Absence.{EndsAs}
use Rattle.model_disk.specs.declared.disk.DiskError.{DiskError}
use Rattle.pool_slots.proofs.Failing.{fails_now}
use Rattle.pool_slots.proofs.Results.{err_use}
use Rattle.pool_export.specs.Writes.{copy_on}
use Rattle.pool_export.proofs.Copies.{both_made, both_stand, copy_made}
use Rattle.pool_export.proofs.label_writes.write_both.Goals as goal

pub returns-in_err-write_area-clause-makes : goal.returns-in_err-write_area-clause-makes
returns-in_err-write_area-clause-makes g c =
    copy_made c.write_area.result c.args.disks.now.starts (InHalf c.args.half) c.args.area.now c.args.disks.now c.write_area.new.disks c.args.which c.args.half (omega (arith, c.requires.half)) (inl refl)
    c.write_area.ensures.starts c.write_area.ensures.call

pub returns-clause-makes : goal.returns-clause-makes
returns-clause-makes g c =
    both_made c.write_area-2.result c.args.disks.now c.write_area.new.disks c.write_area-2.new.disks c.args.which c.args.half c.args.area.now c.requires.half
    (copy_made c.write_area.result c.args.disks.now.starts (InHalf c.args.half) c.args.area.now c.args.disks.now c.write_area.new.disks c.args.which c.args.half (omega (arith, c.requires.half)) (inl refl)
    c.write_area.ensures.starts c.write_area.ensures.call)
    c.write_area-2.ensures.starts c.write_area-2.ensures.call

pub returns-clause-stands : goal.returns-clause-stands
returns-clause-stands g c =
    both_stand c.write_area-2.result c.args.disks.now c.write_area.new.disks c.write_area-2.new.disks c.args.which c.args.half c.args.area.now c.requires.half c.requires.whole c.requires.room
    c.write_area.ensures.starts c.in_ok-write_area.ensures.call c.write_area-2.ensures.starts c.write_area-2.ensures.call

pub returns-in_err-write_area-clause-ends : goal.returns-in_err-write_area-clause-ends
returns-in_err-write_area-clause-ends g c =
    let old = c.args.disks.now in
    let mid = c.write_area.new.disks in
    let call = FailedWrite (area_place (length (bytes_of old.starts c.args.which)) c.args.half) c.args.area.now in
    let P : Result (Unit {0}) DiskError → Type 0 = λ r. EndsAs r old mid c.args.which in
    err_use c.from_residual.result c.in_err-write_area.field-0.0 P c.from_residual.ensures.1
    (fails_one old mid c.args.which call c.in_err-write_area.ensures.call refl, fails_now old mid c.args.which call c.in_err-write_area.ensures.call refl)

pub returns-clause-ends : goal.returns-clause-ends
returns-clause-ends g c =
    let old = c.args.disks.now in
    let mid = c.write_area.new.disks in
    let new = c.write_area-2.new.disks in
    ends_next c.write_area-2.result (copy_on c.args.which old.starts (InHalf c.args.half) c.args.area.now) old mid new c.args.which
    (copy_made c.write_area.result old.starts (InHalf c.args.half) c.args.area.now old mid c.args.which c.args.half (omega (arith, c.requires.half)) (inl refl)
    c.write_area.ensures.starts c.write_area.ensures.call).makes
    (answers_one old mid c.args.which (Wrote (area_place (length (bytes_of old.starts c.args.which)) c.args.half) c.args.area.now) c.in_ok-write_area.ensures.call refl)
    (ends_write c.write_area-2.result mid new c.args.which (area_place (length (bytes_of mid.starts c.args.which)) (c.args.half + 2)) c.args.area.now c.write_area-2.ensures.call)
