use Rattle.std.proofs.Common.{◌≡◌, true, take}
use Rattle.block_store.specs.Store.{is_out}
use Rattle.pool_model.specs.View.{is_tolerable}
use Rattle.pool_open.specs.Words.{vdevs_in}
use Rattle.pool_open.proofs.tolerance.are_tolerable.Given as goal

abbrev pub invariant-loop-index : goal.invariant-loop-index
invariant-loop-index l = is_tolerable (take l.index (vdevs_in l.shapes)) (is_out l.out) ≡ true
