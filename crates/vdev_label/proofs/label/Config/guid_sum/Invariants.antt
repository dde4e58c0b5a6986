use Rattle.std.proofs.Common.{drop, map}
use Rattle.std.specs.List.{sum}
use Rattle.vdev_label.proofs.GuidSums.{AddsUp}
use Rattle.vdev_label.specs.Config.{guids}
use Rattle.vdev_label.specs.Plain.{vdev_view, config_view}
use Rattle.vdev_label.proofs.label.Config.guid_sum.Given as goal

abbrev pub invariant-loop-i : goal.invariant-loop-i
invariant-loop-i l = AddsUp l.sum (sum (guids (map vdev_view (drop l.i l.self.vdevs.items)))) (sum (guids (config_view l.self)))
