use Rattle.std.proofs.Common.{◌≡◌, ◌<◌, ℕ, false}
use Rattle.block_store.specs.Store.{is_out}
use Rattle.pool_commit.proofs.commit.Commit.is_whole.Given as goal

abbrev pub invariant-loop-disk : goal.invariant-loop-disk
invariant-loop-disk g l = (other : ℕ) → other < l.disk → is_out l.self.store.out other ≡ false
