use Rattle.std.proofs.Common.{◌≡◌, ◌∷◌, ◌++◌, map, drop}
use Rattle.vdev_label.specs.Config.{guids}
use Rattle.vdev_label.specs.Plain.{vdev_view}
use Rattle.vdev_label.proofs.limits.all_guids.Given as goal

abbrev pub invariant-loop-i : goal.invariant-loop-i
invariant-loop-i l = l.found.items ++ guids (map vdev_view (drop l.i l.vdevs)) ≡ l.pool_guid ∷ guids (map vdev_view l.vdevs)
