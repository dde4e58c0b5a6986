use Rattle.std.specs.List.{AllWithin}
use Rattle.vdev_label.specs.Limits.{IsAllowedVdev}
use Rattle.vdev_label.specs.Plain.{vdev_view}
use Rattle.vdev_label.proofs.limits.are_allowed.Given as goal

abbrev pub invariant-loop-i : goal.invariant-loop-i
invariant-loop-i l = AllWithin (λ v. IsAllowedVdev (vdev_view v)) l.vdevs 0 l.i
