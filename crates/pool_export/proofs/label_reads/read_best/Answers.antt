use Rattle.std.proofs.Common.{Result, Option, refl, arith}
use Rattle.vdev_label.specs.declared.label.Label.{Label}
use Rattle.pool_slots.specs.Reads.{nowhere}
use Rattle.pool_slots.specs.Slots.{is_disk}
use Rattle.pool_slots.proofs.ReadRuns.{reads_any, reads_made, reads_none, reads_then}
use Rattle.pool_slots.proofs.Results.{err_use}
use Rattle.pool_export.specs.Reads.{ReadsBest}
use Rattle.pool_export.specs.declared.unread.Unread.{Unread}
use Rattle.pool_export.proofs.Best.{best_done, best_next, best_refused, ends_err}
use Rattle.pool_export.proofs.Absence.{answers_kept, answers_more}
use Rattle.pool_export.specs.Faults.{EndsAtFault}
use Rattle.pool_export.proofs.Scans.{reads_err}
use Rattle.pool_export.proofs.label_reads.read_best.Goals as goal

pub returns-in_err-best-clause-only : goal.returns-in_err-best-clause-only
returns-in_err-best-clause-only g c = reads_err c.from_residual.result c.in_err-best.field-0.0 c.from_residual.ensures.1 (reads_then c.loop-number.invariant.only c.in_err-best.ensures.only)

pub returns-in_err-best-clause-reads : goal.returns-in_err-best-clause-reads
returns-in_err-best-clause-reads g c =
    let P : Result (Option Label) Unread → Type 0 = ReadsBest c.args.digest.now c.args.disks.now c.read_better.new.disks c.args.which in
    let cause = c.in_err-best.field-0.0 in
    err_use c.from_residual.result cause P c.from_residual.ensures.1
    (best_refused c.args.digest.now c.args.disks.now c.loop-number.disks c.read_better.new.disks c.args.which c.loop-number.number c.loop-number.best cause (reads_made c.loop-number.invariant.only)
    c.in_err-best.ensures.reads)

pub returns-in_err-best-clause-ends : goal.returns-in_err-best-clause-ends
returns-in_err-best-clause-ends g c =
    let P : Result (Option Label) Unread → Type 0 = λ r. EndsAtFault r c.args.disks.now c.read_better.new.disks c.args.which in
    let cause = c.in_err-best.field-0.0 in
    err_use c.from_residual.result cause P c.from_residual.ensures.1
    (ends_err (Option Label) (Option Label) c.args.disks.now c.loop-number.disks c.read_better.new.disks c.args.which cause c.loop-number.invariant.answers c.in_err-best.ensures.ends)

pub loop-number-init : goal.loop-number-init
loop-number-init g c = record {
  only = reads_none (is_disk c.args.which) nowhere c.args.disks.now;
  answers = answers_kept c.args.disks.now c.args.disks.now c.args.which refl;
  best = λ known honest number l below. absurd (omega (arith, below));
}

pub loop-number-preserved : goal.loop-number-preserved
loop-number-preserved g c =
    record {
      only = reads_then {faulty = nowhere} c.loop-number.invariant.only c.in_ok-best.ensures.only;
      answers = answers_more c.args.disks.now c.loop-number.disks c.read_better.new.disks c.args.which c.loop-number.invariant.answers c.in_ok-best.ensures.ends;
      best = best_next c.args.digest.now c.args.disks.now c.loop-number.disks c.read_better.new.disks c.args.which c.loop-number.number c.loop-number.best c.in_ok-best.best
          (reads_made c.loop-number.invariant.only) (reads_made c.read_better.ensures.only) c.loop-number.invariant.best c.in_ok-best.ensures.reads;
    }

pub returns-clause-reads : goal.returns-clause-reads
returns-clause-reads g c =
    best_done c.args.digest.now c.args.disks.now c.loop-number.disks c.args.which c.loop-number.number c.loop-number.best (omega (arith, c.loop-number-test.false)) c.loop-number.invariant.best

pub returns-clause-only : goal.returns-clause-only
returns-clause-only g c = reads_any c.loop-number.invariant.only
