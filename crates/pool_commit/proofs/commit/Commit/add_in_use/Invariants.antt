use Rattle.std.proofs.Common.{◌≡◌, ◌++◌}
use Rattle.std.specs.Prelude.{filter, not}
use Rattle.block_store.specs.Store.{is_out}
use Rattle.pool_model.specs.View.{counted}
use Rattle.pool_commit.proofs.commit.Commit.add_in_use.Given as goal

abbrev pub invariant-loop-child : goal.invariant-loop-child
invariant-loop-child g l = l.disks.items ≡ l.initial.disks.items ++ filter (λ disk. not (is_out l.self.store.out disk)) (counted l.vdev.first l.child)
