use Rattle.std.proofs.Common.{Bool, Result, sym, subst}
use Rattle.pool_slots.proofs.LabelAreas.{label_read}
use Rattle.pool_slots.proofs.ReadRuns.{reads_any}
use Rattle.pool_slots.specs.Reads.{OnlyReads}
use Rattle.pool_slots.specs.Slots.{is_disk}
use Rattle.pool_format.specs.Blank.{ShowsLabel, TellsWhether}
use Rattle.pool_format.specs.Faults.{IsFaultOf}
use Rattle.pool_format.specs.declared.refusal.Refusal.{Refusal}
use Rattle.pool_format.proofs.Blanks.{label_only, label_tells, label_told}
use Rattle.pool_format.proofs.blank.shows_label.Goals as goal
use Rattle.pool_format.proofs.blank.shows_label.Goals.{in-Ok, in-Err}

pub returns-clause-only : goal.returns-clause-only
returns-clause-only g c =
    let old = c.args.disks.now in
    let new = c.read_label.new.disks in
    let P : Result Bool Refusal → Type 0 = λ r. OnlyReads (is_disk c.args.which) (IsFaultOf r) old new in
    elim c.match-read_label.branch [
      | in-Ok w ↦ subst P (sym w.result-is) (reads_any (label_read old new c.args.which c.args.number w.in-Ok.field-0 c.read_label.ensures.starts w.in-Ok.ensures.calls))
      | in-Err w ↦ subst P (sym w.result-is) (subst P (sym w.unread.ensures) (label_only old new c.args.which c.args.number w.in-Err.cause c.read_label.ensures.starts w.in-Err.ensures.calls))
    ]

pub returns-clause-tells : goal.returns-clause-tells
returns-clause-tells g c =
    let old = c.args.disks.now in
    let new = c.read_label.new.disks in
    let P : Result Bool Refusal → Type 0 = TellsWhether (ShowsLabel c.args.number) old new c.args.which in
    elim c.match-read_label.branch [
      | in-Ok w ↦ subst P (sym w.result-is) (label_told old new c.args.which c.args.number w.in-Ok.field-0 c.requires.room c.requires.number c.read_label.ensures.starts w.in-Ok.ensures.calls)
      | in-Err w ↦ subst P (sym w.result-is)
          (subst P (sym w.unread.ensures) (label_tells old new c.args.which c.args.number w.in-Err.cause c.requires.room c.requires.number c.read_label.ensures.starts w.in-Err.ensures.calls))
    ]
