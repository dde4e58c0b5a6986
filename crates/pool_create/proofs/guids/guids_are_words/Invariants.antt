use Rattle.std.proofs.Common.{drop, map}
use Rattle.words.specs.Words.{AreWords}
use Rattle.vdev_label.specs.Config.{guids}
use Rattle.vdev_label.specs.Plain.{vdev_view}
use Rattle.pool_create.proofs.guids.guids_are_words.Given as goal

abbrev pub invariant-loop-i : goal.invariant-loop-i
invariant-loop-i l = AreWords (guids (map vdev_view (drop l.i l.config.vdevs.items))) → AreWords (guids (map vdev_view l.config.vdevs.items))
