use Rattle.std.proofs.Common.{ℕ, ◌<◌, length}
use Rattle.model_disk.specs.Joint.{bytes_of, content}
use Rattle.vdev_label.specs.Plain.{label_view}
use Rattle.pool_slots.specs.Labels.{IsLabelShown}
use Rattle.pool_slots.specs.Slots.{MakesOn, is_disk}
use Rattle.pool_format.specs.Faults.{FailedOn}
use Rattle.pool_format.specs.Labels.{label_on}
use Rattle.pool_format.proofs.Failures.{nowhere}
use Rattle.pool_format.proofs.labeling.write_four.Given as goal

abbrev pub invariant-loop-number : goal.invariant-loop-number
invariant-loop-number g l = record {
  makes : MakesOn (is_disk l.which) (label_on l.fn.disks.starts l.which (label_view l.label)) l.fn.disks l.disks;
  shown : (n : ℕ) → n < l.number → IsLabelShown (length (bytes_of l.fn.disks.starts l.which)) (content l.disks l.which) n (label_view l.label);
  failed : FailedOn nowhere l.fn.disks l.disks;
}
