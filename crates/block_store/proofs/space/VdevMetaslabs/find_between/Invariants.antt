use Rattle.std.proofs.Common.{◌<◌, ◌≤◌, ℕ}
use Rattle.block_store.specs.Places.{MayTake, HasRoomIn}
use Rattle.block_store.proofs.space.VdevMetaslabs.find_between.Given as goal
use Rattle.block_store.specs.Shapes.{IsInRegion}

-- no metaslab of the region before this one has room and may be taken
abbrev pub invariant-loop-metaslab : goal.invariant-loop-metaslab
invariant-loop-metaslab l = (m : ℕ) → m < l.metaslab → l.first ≤ m → HasRoomIn l.self m l.wanted.sectors → IsInRegion l.self.shape l.wanted.copies m → ¬ MayTake l.self.shape l.taken l.vdev m l.wanted.spread
