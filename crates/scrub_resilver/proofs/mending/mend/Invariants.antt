use Rattle.std.proofs.Common.{Contains, take}
use Rattle.block_pointer.specs.declared.block.Block.{Block}
use Rattle.scrub_resilver.specs.Mending.{AreMendedInTurn, IsBlockMended, OnlyMends}
use Rattle.scrub_resilver.proofs.mending.mend.Given as goal

abbrev pub invariant-loop-block : goal.invariant-loop-block
invariant-loop-block g l = record {
  mends : OnlyMends l.shapes l.blocks l.missing l.fn.disks l.disks;
  in_turn : AreMendedInTurn l.shapes l.missing (take l.block-index l.blocks) l.fn.disks l.disks;
  mended : (block : Block) → Contains (take l.block-index l.blocks) block → IsBlockMended l.shapes l.fn.disks l.disks l.missing block;
}
