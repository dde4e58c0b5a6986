use Rattle.std.proofs.Common.{◌≡◌, ◌≤◌, ◌+◌, ◌*◌, ◌++◌, map, drop}
use Rattle.block_store.specs.Places.{shapes_of}
use Rattle.vdev_label.specs.Plain.{vdev_view}
use Rattle.pool_commit.specs.Configs.{configs_from}
use Rattle.pool_commit.proofs.config.config_of.Given as goal

-- the vdevs so far, and the rest from the next guid on
abbrev pub invariant-loop-index : goal.invariant-loop-index
invariant-loop-index g l =
    (map vdev_view l.vdevs.items ++ configs_from l.guid (drop l.index (shapes_of l.store.spaces)) ≡ configs_from 100 (shapes_of l.store.spaces))
    × (l.guid ≤ 100 + 100 * l.index)
