use Rattle.std.proofs.Common.{arith}
use Rattle.pool_slots.proofs.ReadRuns.{reads_any, reads_made, reads_none, reads_then}
use Rattle.pool_slots.specs.Reads.{nowhere}
use Rattle.pool_slots.specs.Slots.{is_disk}
use Rattle.pool_format.specs.Blank.{ShowsLabel, ShowsLabels}
use Rattle.pool_format.proofs.Blanks.{cause_since, none_all, none_next, reads_err, shown_here, tells_err, tells_false, tells_true}
use Rattle.pool_format.proofs.blank.shows_labels.Goals as goal

pub loop-number-init : goal.loop-number-init
loop-number-init g c = record {
  only = reads_none (is_disk c.args.which) nowhere c.args.disks.now;
  none = λ known honest below. absurd (omega (arith, below.1));
}

pub returns-in_err-shows_label-clause-only : goal.returns-in_err-shows_label-clause-only
returns-in_err-shows_label-clause-only g c =
    reads_err c.from_residual.result c.in_err-shows_label.field-0.0 c.from_residual.ensures.1 (reads_then c.loop-number.invariant.only c.in_err-shows_label.ensures.only)

pub returns-in_err-shows_label-clause-tells : goal.returns-in_err-shows_label-clause-tells
returns-in_err-shows_label-clause-tells g c =
    let first = c.args.disks.now in
    let new = c.shows_label.new.disks in
    let cause = c.in_err-shows_label.field-0.0 in
    tells_err ShowsLabels first new c.args.which c.from_residual.result cause c.from_residual.ensures.1
    (cause_since first c.loop-number.disks new cause (reads_made c.loop-number.invariant.only) c.in_err-shows_label.ensures.tells)

pub returns-then-branch-clause-only : goal.returns-then-branch-clause-only
returns-then-branch-clause-only g c = reads_any (reads_then c.loop-number.invariant.only c.in_ok-shows_label.ensures.only)

pub returns-then-branch-clause-tells : goal.returns-then-branch-clause-tells
returns-then-branch-clause-tells g c =
    let loop = c.loop-number.disks in
    let new = c.shows_label.new.disks in
    shown_here c.args.disks.now loop new c.args.which c.loop-number.number (reads_made c.loop-number.invariant.only)
    (tells_true (ShowsLabel c.loop-number.number) loop new c.args.which c.in_ok-shows_label.field-0 c.if-branch.true c.in_ok-shows_label.ensures.tells)

pub loop-number-preserved : goal.loop-number-preserved
loop-number-preserved g c =
    let loop = c.loop-number.disks in
    let new = c.shows_label.new.disks in
    record {
      only = reads_then {faulty = nowhere} c.loop-number.invariant.only c.in_ok-shows_label.ensures.only;
      none = none_next c.args.disks.now loop new c.args.which c.loop-number.number (reads_made c.loop-number.invariant.only) (reads_made c.shows_label.ensures.only) c.loop-number.invariant.none
          (tells_false (ShowsLabel c.loop-number.number) loop new c.args.which c.in_ok-shows_label.field-0 c.if-branch.false c.in_ok-shows_label.ensures.tells);
    }

pub returns-clause-only : goal.returns-clause-only
returns-clause-only g c = reads_any c.loop-number.invariant.only

pub returns-clause-tells : goal.returns-clause-tells
returns-clause-tells g c = none_all c.args.disks.now c.loop-number.disks c.args.which c.loop-number.number (omega (arith, c.loop-number-test.false, c.loop-number.auto.number-end)) c.loop-number.invariant.none
