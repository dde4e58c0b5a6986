use Rattle.std.proofs.Common.{Result, Option, sym, subst}
use Rattle.pool_slots.specs.LabelReads.{ReadsShown}
use Rattle.pool_slots.specs.Reads.{OnlyReads, IsFaultOf}
use Rattle.pool_slots.specs.Slots.{is_disk}
use Rattle.pool_slots.specs.declared.labeled.Shown.{Shown}
use Rattle.pool_slots.specs.declared.refusal.Refusal.{Refusal}
use Rattle.pool_slots.proofs.LabelAreas.{label_read, shown_not_read, reads_some, reads_other}
use Rattle.pool_slots.proofs.ReadRuns.{reads_any}
use Rattle.pool_slots.proofs.label_scan.read_shown.Goals as goal

pub returns-in_err-shown_of-in-Ok-clause-only : goal.returns-in_err-shown_of-in-Ok-clause-only
returns-in_err-shown_of-in-Ok-clause-only g c = reads_any (label_read c.args.disks.now c.read_label.new.disks c.args.which c.args.number c.in-Ok.label c.read_label.ensures.starts c.in-Ok.ensures.calls)

pub returns-in_ok-shown_of-in-Ok-clause-only : goal.returns-in_ok-shown_of-in-Ok-clause-only
returns-in_ok-shown_of-in-Ok-clause-only g c = label_read c.args.disks.now c.read_label.new.disks c.args.which c.args.number c.in-Ok.label c.read_label.ensures.starts c.in-Ok.ensures.calls

pub returns-in_ok-shown_of-in-Ok-clause-reads : goal.returns-in_ok-shown_of-in-Ok-clause-reads
returns-in_ok-shown_of-in-Ok-clause-reads g c =
    reads_some c.args.disks.now c.read_label.new.disks c.args.which c.args.number c.in-Ok.label c.in_ok-shown_of-in-Ok.field-0 c.requires.room c.requires.number c.read_label.ensures.starts
    c.in-Ok.ensures.calls c.in_ok-shown_of-in-Ok.ensures

pub returns-in-Err-clause-only : goal.returns-in-Err-clause-only
returns-in-Err-clause-only g c =
    let old = c.args.disks.now in
    let new = c.read_label.new.disks in
    let P : Result (Option Shown) Refusal → Type 0 = λ r. OnlyReads (is_disk c.args.which) (IsFaultOf r) old new in
    subst P (sym c.unread.ensures) (shown_not_read old new c.args.which c.args.number c.in-Err.cause c.read_label.ensures.starts c.in-Err.ensures.calls)

pub returns-in-Err-clause-reads : goal.returns-in-Err-clause-reads
returns-in-Err-clause-reads g c =
    let P : Result (Option Shown) Refusal → Type 0 = ReadsShown c.args.disks.now c.read_label.new.disks c.args.which c.args.number in
    subst P (sym c.unread.ensures)
    (reads_other c.args.disks.now c.read_label.new.disks c.args.which c.args.number c.in-Err.cause c.requires.room c.requires.number c.read_label.ensures.starts c.in-Err.ensures.calls)
