use Rattle.std.proofs.Common.{◌≡◌, take}
use Rattle.block_store.specs.Places.{shapes_of}
use Rattle.pool_commit.proofs.commit.Commit.shapes.Given as goal

abbrev pub invariant-loop-index : goal.invariant-loop-index
invariant-loop-index g l = l.shapes.items ≡ take l.index (shapes_of l.self.store.spaces)
