use Rattle.std.proofs.Common.{◌≡◌, false, take}
use Rattle.std.specs.Prelude.{◌==◌}
use Rattle.std.specs.List.{list_any}
use Rattle.pool_model.specs.View.{disks_of}
use Rattle.pool_commit.specs.Config.{vdevs_of}
use Rattle.pool_commit.proofs.suspension.has_disk.Given as goal

abbrev pub invariant-loop-index : goal.invariant-loop-index
invariant-loop-index g l = list_any (λ d. d == l.disk) (disks_of (take l.index (vdevs_of l.store.spaces))) ≡ false
