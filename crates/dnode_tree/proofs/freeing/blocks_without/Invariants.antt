use Rattle.std.proofs.Common.{take}
use Rattle.dnode_tree.proofs.Leaving.{IsLeaving}
use Rattle.dnode_tree.proofs.freeing.blocks_without.Given as goal

abbrev pub invariant-loop-block : goal.invariant-loop-block
invariant-loop-block l = IsLeaving (take l.block-index l.blocks) l.others l.seen.keys l.left.items
