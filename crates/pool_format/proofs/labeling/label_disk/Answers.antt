use Rattle.model_disk.specs.Joint.{bytes_of, content}
use Rattle.model_disk.specs.Runs.{no_write}
use Rattle.std.specs.Prelude.{length}
use Rattle.vdev_label.specs.Plain.{label_view}
use Rattle.pool_slots.specs.Slots.{is_disk}
use Rattle.pool_slots.proofs.Phases.{flushed_too}
use Rattle.pool_slots.proofs.Results.{on_ok_is}
use Rattle.pool_format.specs.Faults.{IsFaultOf}
use Rattle.pool_format.specs.Labels.{AllShow, label_on}
use Rattle.pool_format.proofs.Failures.{failed_after, failed_err}
use Rattle.pool_format.proofs.Writes.{shown_later}
use Rattle.pool_format.proofs.labeling.label_disk.Goals as goal

pub returns-in_err-write_four-clause-failed : goal.returns-in_err-write_four-clause-failed
returns-in_err-write_four-clause-failed g c =
    failed_err c.from_residual.result c.in_err-write_four.field-0.0 c.args.disks.now c.write_four.new.disks c.from_residual.ensures.1 c.in_err-write_four.ensures.failed

pub returns-clause-makes : goal.returns-clause-makes
returns-clause-makes g c =
    flushed_too (is_disk c.args.which) (label_on c.args.disks.now.starts c.args.which (label_view c.args.label.now)) c.args.disks.now c.write_four.new.disks c.flush.new.disks c.write_four.ensures.makes
    c.flush.ensures.makes

pub returns-clause-shown : goal.returns-clause-shown
returns-clause-shown g c =
    let l = label_view c.args.label.now in
    let size = length (bytes_of c.args.disks.now.starts c.args.which) in
    on_ok_is c.flush.result (AllShow size (content c.flush.new.disks c.args.which) l)
    (shown_later c.write_four.new.disks c.flush.new.disks size c.args.which l c.flush.ensures.makes.makes c.in_ok-write_four.ensures.shown)

pub returns-clause-failed : goal.returns-clause-failed
returns-clause-failed g c =
    failed_after (label_on c.args.disks.now.starts c.args.which (label_view c.args.label.now)) no_write (IsFaultOf c.flush.result) c.args.disks.now c.write_four.new.disks c.flush.new.disks
    c.write_four.ensures.makes.makes c.flush.ensures.makes.makes c.in_ok-write_four.ensures.failed c.flush.ensures.failed
