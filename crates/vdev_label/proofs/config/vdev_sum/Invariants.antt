use Rattle.std.proofs.Common.{◌+◌, drop}
use Rattle.std.specs.List.{sum}
use Rattle.vdev_label.proofs.GuidSums.{AddsUp}
use Rattle.vdev_label.proofs.config.vdev_sum.Given as goal

abbrev pub invariant-loop-i : goal.invariant-loop-i
invariant-loop-i l = AddsUp l.sum (sum (drop l.i l.vdev.children.items)) (l.vdev.guid + sum l.vdev.children.items)
