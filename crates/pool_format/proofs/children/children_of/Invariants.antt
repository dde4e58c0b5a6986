use Rattle.std.proofs.Common.{◌≡◌, ◌++◌, map, drop}
use Rattle.words.specs.Words.{AreWords}
use Rattle.vdev_label.specs.Config.{guids}
use Rattle.vdev_label.specs.Plain.{vdev_view}
use Rattle.pool_format.specs.Labels.{children_of}
use Rattle.pool_format.proofs.children.children_of.Given as goal

abbrev pub invariant-loop-i : goal.invariant-loop-i
invariant-loop-i l = record {
  items : l.children.items ++ children_of (map vdev_view (drop l.i l.config.vdevs.items)) ≡ children_of (map vdev_view l.config.vdevs.items);
  words : AreWords (guids (map vdev_view (drop l.i l.config.vdevs.items))) → AreWords (guids (map vdev_view l.config.vdevs.items));
}
