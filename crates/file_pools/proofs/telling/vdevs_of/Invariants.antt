use Rattle.std.proofs.Common.{◌≡◌, ◌++◌, drop, map}
use Rattle.file_pools.specs.Telling.{told, vdev_rows}
use Rattle.file_pools.proofs.telling.vdevs_of.Given as goal

abbrev pub invariant-loop-number : goal.invariant-loop-number
invariant-loop-number l = map told l.vdevs.items ++ vdev_rows l.number l.first (drop l.number l.fn.config.vdevs.items) l.fn.out l.fn.spans ≡ vdev_rows 0 0 l.fn.config.vdevs.items l.fn.out l.fn.spans
