use Rattle.std.proofs.Common.{◌↔◌, Contains, take}
use Rattle.block_pointer.specs.declared.block.Block.{Block}
use Rattle.dnode_tree.specs.Rewriting.{AreDistinct}
use Rattle.dnode_tree.proofs.within.are_distinct.Given as goal

abbrev pub invariant-loop-block : goal.invariant-loop-block
invariant-loop-block l = ((block : Block) → Contains l.seen.keys block ↔ Contains (take l.block-index l.blocks) block) × AreDistinct (take l.block-index l.blocks)
