use Rattle.std.proofs.Common.{Err, sym, subst}
use Rattle.pool_slots.specs.LabelReads.{ReadsAgain}
use Rattle.pool_slots.specs.Reads.{OnlyReads, is_fault}
use Rattle.pool_slots.specs.Slots.{is_disk}
use Rattle.pool_slots.specs.declared.refusal.Refusal.{Refusal}
use Rattle.pool_slots.proofs.LabelAreas.{label_read, label_not_read}
use Rattle.pool_slots.proofs.LabelPlans.{again_read, again_unread}
use Rattle.pool_slots.proofs.areas.read_again.Goals as goal

pub returns-in-Ok-clause-only : goal.returns-in-Ok-clause-only
returns-in-Ok-clause-only g c = label_read c.args.disks.now c.read_label.new.disks c.args.which c.args.number c.in-Ok.label c.read_label.ensures.starts c.in-Ok.ensures.calls

pub returns-in-Ok-clause-reads : goal.returns-in-Ok-clause-reads
returns-in-Ok-clause-reads g c =
    again_read c.args.disks.now c.read_label.new.disks c.args.which c.args.number c.in-Ok.label c.requires.room c.requires.number c.read_label.ensures.starts c.in-Ok.ensures.calls

pub returns-in-Err-clause-only : goal.returns-in-Err-clause-only
returns-in-Err-clause-only g c =
    let old = c.args.disks.now in
    let new = c.read_label.new.disks in
    let P : Refusal → Type 0 = λ refusal. OnlyReads (is_disk c.args.which) (is_fault refusal) old new in
    subst P (sym c.label_unread.ensures) (label_not_read old new c.args.which c.args.number c.in-Err.cause c.read_label.ensures.starts c.in-Err.ensures.calls)

pub returns-in-Err-clause-reads : goal.returns-in-Err-clause-reads
returns-in-Err-clause-reads g c =
    let P : Refusal → Type 0 = λ refusal. ReadsAgain c.args.disks.now c.read_label.new.disks c.args.which c.args.number (Err refusal) in
    subst P (sym c.label_unread.ensures)
    (again_unread c.args.disks.now c.read_label.new.disks c.args.which c.args.number c.in-Err.cause c.requires.room c.requires.number c.read_label.ensures.starts c.in-Err.ensures.calls)
