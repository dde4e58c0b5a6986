use Rattle.std.proofs.Common.{◌≡◌, map, take}
use Rattle.vdev_label.specs.Plain.{vdev_view}
use Rattle.pool_create.proofs.planning.copied.Given as goal

abbrev pub invariant-loop-i : goal.invariant-loop-i
invariant-loop-i l = map vdev_view l.vdevs.items ≡ map vdev_view (take l.i l.config.vdevs.items)
