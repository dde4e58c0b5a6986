use Rattle.std.proofs.Common.{◌≡◌, map}
use Rattle.model_disk.specs.Joint.{content}
use Rattle.model_disk.specs.Runs.{AreSettledBelow, Makes}
use Rattle.vdev_label.specs.Plain.{label_view}
use Rattle.pool_format.specs.Faults.{FailedOn}
use Rattle.pool_format.specs.Labels.{IsLabelWrite, of_child}
use Rattle.pool_format.specs.declared.children.Child.{Child}
use Rattle.pool_format.proofs.Failures.{nowhere}
use Rattle.pool_format.proofs.Writes.{LabeledBelow}
use Rattle.pool_format.proofs.labeling.label_disks.Given as goal

abbrev pub invariant-loop-which : goal.invariant-loop-which
invariant-loop-which g l = record {
  makes : Makes (IsLabelWrite l.fn.disks.starts (map (of_child (label_view l.fn.label)) l.children)) l.fn.disks l.disks;
  same : (child : Child) → of_child (label_view l.label) child ≡ of_child (label_view l.fn.label) child;
  shown : LabeledBelow l.fn.disks.starts (content l.disks) (map (of_child (label_view l.fn.label)) l.children) l.which;
  settled : AreSettledBelow l.which l.disks.calls;
  failed : FailedOn nowhere l.fn.disks l.disks;
}
