use Rattle.std.proofs.Common.{◌≡◌, true, take}
use Rattle.block_store.specs.Store.{is_out}
use Rattle.pool_model.specs.View.{is_tolerable}
use Rattle.pool_commit.specs.Config.{vdevs_of}
use Rattle.pool_commit.proofs.suspension.lacks_disks.Given as goal

abbrev pub invariant-loop-index : goal.invariant-loop-index
invariant-loop-index g l = is_tolerable (take l.index (vdevs_of l.store.spaces)) (is_out l.store.out) ≡ true
