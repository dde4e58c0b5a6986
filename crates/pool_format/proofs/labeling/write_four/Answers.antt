use Rattle.std.proofs.Common.{arith}
use Rattle.vdev_label.specs.Plain.{label_view}
use Rattle.pool_slots.specs.Slots.{is_disk}
use Rattle.pool_slots.proofs.Phases.{MakesOn-none}
use Rattle.pool_format.specs.Faults.{is_fault}
use Rattle.pool_format.specs.Labels.{label_on}
use Rattle.pool_format.proofs.Failures.{failed_after, failed_err, none_failed, nowhere}
use Rattle.pool_format.proofs.Writes.{label_next, makes_first}
use Rattle.pool_format.proofs.labeling.write_four.Goals as goal

pub loop-number-init : goal.loop-number-init
loop-number-init g c = record {
  makes = MakesOn-none (is_disk c.args.which) (label_on c.args.disks.now.starts c.args.which (label_view c.args.label.now)) c.args.disks.now;
  shown = λ n below. absurd (omega (arith, below));
  failed = none_failed c.args.disks.now;
}

pub returns-in_err-write_label-clause-makes : goal.returns-in_err-write_label-clause-makes
returns-in_err-write_label-clause-makes g c =
    makes_first c.args.disks.now c.loop-number.disks c.write_label.new.disks (is_disk c.args.which) c.args.which (label_view c.args.label.now) c.loop-number.invariant.makes c.write_label.ensures.makes

pub returns-in_err-write_label-clause-failed : goal.returns-in_err-write_label-clause-failed
returns-in_err-write_label-clause-failed g c =
    let first = c.args.disks.now in
    let loop = c.loop-number.disks in
    let new = c.write_label.new.disks in
    let l = label_view c.args.label.now in
    let cause = c.in_err-write_label.field-0.0 in
    failed_err c.from_residual.result cause first new c.from_residual.ensures.1
    (failed_after (label_on first.starts c.args.which l) (label_on loop.starts c.args.which l) (is_fault cause) first loop new c.loop-number.invariant.makes.makes c.write_label.ensures.makes.makes
    c.loop-number.invariant.failed c.in_err-write_label.ensures.failed)

pub loop-number-preserved : goal.loop-number-preserved
loop-number-preserved g c =
    let first = c.args.disks.now in
    let loop = c.loop-number.disks in
    let new = c.write_label.new.disks in
    let l = label_view c.args.label.now in
    record {
      makes = makes_first first loop new (is_disk c.args.which) c.args.which l c.loop-number.invariant.makes c.write_label.ensures.makes;
      shown = λ n below. label_next first loop new c.args.which c.loop-number.number n l c.loop-number.invariant.makes.makes.starts c.requires.room (omega (arith, c.loop-number-test.true, c.loop-number.auto.number-end))
          c.write_label.ensures.elsewhere c.loop-number.invariant.shown c.in_ok-write_label.ensures.shown below;
      failed = failed_after (label_on first.starts c.args.which l) (label_on loop.starts c.args.which l) nowhere first loop new c.loop-number.invariant.makes.makes c.write_label.ensures.makes.makes
          c.loop-number.invariant.failed c.in_ok-write_label.ensures.failed;
    }

pub returns-clause-shown : goal.returns-clause-shown
returns-clause-shown g c = λ n below. c.loop-number.invariant.shown n (omega (arith, below, c.loop-number-test.false, c.loop-number.auto.number-end))

pub returns-clause-failed : goal.returns-clause-failed
returns-clause-failed g c = c.loop-number.invariant.failed
