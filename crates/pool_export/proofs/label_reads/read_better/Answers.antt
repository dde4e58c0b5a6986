use Rattle.std.proofs.Common.{Result, Option, sym, subst}
use Rattle.vdev_label.specs.declared.label.Label.{Label}
use Rattle.pool_slots.specs.Reads.{OnlyReads}
use Rattle.pool_slots.specs.Slots.{is_disk}
use Rattle.pool_slots.proofs.LabelAreas.{label_read}
use Rattle.pool_slots.proofs.ReadRuns.{reads_any}
use Rattle.pool_slots.proofs.Results.{err_use}
use Rattle.pool_export.specs.declared.unread.Unread.TheVariants.{NoMemory}
use Rattle.pool_export.specs.Faults.{EndsAtFault, IsFaultOf}
use Rattle.pool_export.specs.Reads.{ReadsBetter}
use Rattle.pool_export.specs.declared.unread.Unread.{Unread}
use Rattle.pool_export.proofs.Best.{answers_read, better_read, better_unread, ends_unread, only_unread}
use Rattle.pool_export.proofs.label_reads.read_better.Goals as goal

pub returns-in_err-better_of-in-Ok-clause-only : goal.returns-in_err-better_of-in-Ok-clause-only
returns-in_err-better_of-in-Ok-clause-only g c = reads_any (label_read c.args.disks.now c.read_label.new.disks c.args.which c.args.number c.in-Ok.label c.read_label.ensures.starts c.in-Ok.ensures.calls)

pub returns-in_ok-better_of-in-Ok-clause-only : goal.returns-in_ok-better_of-in-Ok-clause-only
returns-in_ok-better_of-in-Ok-clause-only g c = label_read c.args.disks.now c.read_label.new.disks c.args.which c.args.number c.in-Ok.label c.read_label.ensures.starts c.in-Ok.ensures.calls

pub returns-in_ok-better_of-in-Ok-clause-reads : goal.returns-in_ok-better_of-in-Ok-clause-reads
returns-in_ok-better_of-in-Ok-clause-reads g c =
    better_read c.args.digest.now c.args.best c.in_ok-better_of-in-Ok.field-0 c.args.disks.now c.read_label.new.disks c.args.which c.args.number c.in-Ok.label c.requires.room c.requires.number
    c.read_label.ensures.starts c.in-Ok.ensures.calls c.in_ok-better_of-in-Ok.ensures

pub returns-in-Err-clause-only : goal.returns-in-Err-clause-only
returns-in-Err-clause-only g c =
    let old = c.args.disks.now in
    let new = c.read_label.new.disks in
    let P : Result (Option Label) Unread → Type 0 = λ r. OnlyReads (is_disk c.args.which) (IsFaultOf r) old new in
    subst P (sym c.unread.ensures) (only_unread c.args.best old new c.args.which c.args.number c.in-Err.cause c.read_label.ensures.starts c.in-Err.ensures.calls)

pub returns-in-Err-clause-reads : goal.returns-in-Err-clause-reads
returns-in-Err-clause-reads g c =
    let P : Result (Option Label) Unread → Type 0 = ReadsBetter c.args.digest.now c.args.best c.args.disks.now c.read_label.new.disks c.args.which c.args.number in
    subst P (sym c.unread.ensures)
    (better_unread c.args.digest.now c.args.best c.args.disks.now c.read_label.new.disks c.args.which c.args.number c.in-Err.cause c.requires.room c.requires.number c.read_label.ensures.starts c.in-Err.ensures.calls)

pub returns-in_err-better_of-in-Ok-clause-ends : goal.returns-in_err-better_of-in-Ok-clause-ends
returns-in_err-better_of-in-Ok-clause-ends g c =
    let P : Result (Option Label) Unread → Type 0 = λ r. EndsAtFault r c.args.disks.now c.read_label.new.disks c.args.which in
    err_use c.from_residual.result NoMemory P c.from_residual.ensures.1
    (answers_read c.args.disks.now c.read_label.new.disks c.args.which c.args.number c.in-Ok.label c.in-Ok.ensures.calls)

pub returns-in_ok-better_of-in-Ok-clause-ends : goal.returns-in_ok-better_of-in-Ok-clause-ends
returns-in_ok-better_of-in-Ok-clause-ends g c = answers_read c.args.disks.now c.read_label.new.disks c.args.which c.args.number c.in-Ok.label c.in-Ok.ensures.calls

pub returns-in-Err-clause-ends : goal.returns-in-Err-clause-ends
returns-in-Err-clause-ends g c =
    let P : Result (Option Label) Unread → Type 0 = λ r. EndsAtFault r c.args.disks.now c.read_label.new.disks c.args.which in
    subst P (sym c.unread.ensures) (ends_unread c.args.best c.args.disks.now c.read_label.new.disks c.args.which c.args.number c.in-Err.cause c.in-Err.ensures.calls)
