-- A pool that was just made.
use Rattle.std.specs.Prelude.{◌≤◌, ◌<◌, ◌^◌, [], length}
use Rattle.model_disk.specs.Joint.{Disks}
use Rattle.raidz_io.specs.Reads.{IsHonestSince}
use Rattle.block_store.specs.Store.{is_out}
use Rattle.uberblock_ring.specs.declared.uberblock.Uberblock.{Uberblock}
use Rattle.vdev_label.specs.declared.label.Config.{Config}
use Rattle.pool_create.specs.CoreState.{CoreState, disks_of}
use Rattle.pool_create.specs.Creating.{IsCreated}
use Rattle.pool_create.specs.Planning.{nobody}
use Rattle.pool_format.specs.declared.labeling.PoolIdentity.{PoolIdentity}
use Rattle.pool_model.specs.Pools.{no_volumes}
use Rattle.pool_model.specs.View.{none_stale, opened_as}
use Rattle.pool_create.specs.Words.{vdevs_in}
use Rattle.pool_slots.specs.Opens.{AreKnown}
use Rattle.pool_stops.specs.Running.{IsRunning}

-- It runs behind its first uberblock, where the bytes of its disks were known and all answers since were true.
abbrev pub CreatedPoolsRun : Type 0
CreatedPoolsRun =
    (old : Disks) (pool : PoolIdentity) (config : Config) (u : Uberblock) (core : CoreState) → (is : IsCreated old pool config u core)
    → AreKnown (nobody old.starts) old → IsHonestSince old (disks_of core) → 0 < length old.starts → length old.starts ≤ 2 ^ 64
    → IsRunning core (opened_as (vdevs_in is.shapes) (is_out (nobody old.starts)) none_stale 3 no_volumes) u []
