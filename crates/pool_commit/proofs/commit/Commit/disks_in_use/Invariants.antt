use Rattle.std.proofs.Common.{◌≡◌, take, length}
use Rattle.std.specs.Prelude.{filter, not}
use Rattle.block_store.specs.Store.{is_out}
use Rattle.pool_model.specs.View.{disks_of}
use Rattle.pool_commit.specs.Config.{vdevs_of}
use Rattle.pool_commit.specs.HasDisks.{AreBelow}
use Rattle.pool_commit.proofs.commit.Commit.disks_in_use.Given as goal

abbrev pub invariant-loop-index : goal.invariant-loop-index
invariant-loop-index g l =
    (l.disks.items ≡ filter (λ disk. not (is_out l.self.store.out disk)) (disks_of (take l.index (vdevs_of l.self.store.spaces))))
    × AreBelow (length l.self.store.disks.starts) l.disks.items
