use Rattle.std.proofs.Common.{◌≡◌, ◌++◌, map, drop}
use Rattle.stale_disks.specs.Rules.{guids_in}
use Rattle.vdev_label.specs.Plain.{vdev_view}
use Rattle.stale_disks.proofs.disks.disk_guids.Given as goal

abbrev pub invariant-loop-vdev : goal.invariant-loop-vdev
invariant-loop-vdev l = l.guids.items ++ guids_in (map vdev_view (drop l.vdev l.config.vdevs.items)) ≡ guids_in (map vdev_view l.config.vdevs.items)
