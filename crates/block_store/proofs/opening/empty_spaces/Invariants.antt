use Rattle.std.proofs.Common.{◌≡◌, take}
use Rattle.block_store.specs.Places.{shapes_of, AreEmpty}
use Rattle.block_store.proofs.opening.empty_spaces.Given as goal

abbrev pub invariant-loop-shape : goal.invariant-loop-shape
invariant-loop-shape l = (shapes_of l.spaces.items ≡ take l.shape-index l.shapes) × AreEmpty l.spaces.items
