use Rattle.std.proofs.Common.{All, take}
use Rattle.block_pointer.specs.Block.{FitsBlock}
use Rattle.dataset_chains.proofs.fitting.expect_rows.Given as goal

abbrev pub invariant-loop-block : goal.invariant-loop-block
invariant-loop-block l = All FitsBlock (take l.block-index l.blocks)
