use Rattle.std.proofs.Common.{◌≡◌, ◌≤◌}
use Rattle.block_store.specs.Store.{is_out}
use Rattle.pool_model.specs.View.{lost_in}
use Rattle.pool_open.proofs.tolerance.count_out.Given as goal

abbrev pub invariant-loop-child : goal.invariant-loop-child
invariant-loop-child l = (l.count ≡ lost_in (is_out l.out) l.vdev.first l.child) × (l.count ≤ l.child)
