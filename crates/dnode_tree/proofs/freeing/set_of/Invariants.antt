use Rattle.std.proofs.Common.{◌↔◌, Contains, take}
use Rattle.block_pointer.specs.declared.block.Block.{Block}
use Rattle.dnode_tree.proofs.freeing.set_of.Given as goal

-- the set has the blocks so far
abbrev pub invariant-loop-block : goal.invariant-loop-block
invariant-loop-block l = (block : Block) → Contains l.found.keys block ↔ Contains (take l.block-index l.blocks) block
