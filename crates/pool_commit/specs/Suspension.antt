-- When a pool is suspended.
use Rattle.std.specs.Prelude.{Bool, not}
use Rattle.block_store.specs.Store.{Store, is_out}
use Rattle.pool_model.specs.View.{is_tolerable}
use Rattle.pool_commit.specs.Config.{vdevs_of}

-- of some vdev more disks are out than it has parities
abbrev pub lacks_disks : Store → Bool
lacks_disks store = not (is_tolerable (vdevs_of store.spaces) (is_out store.out))
