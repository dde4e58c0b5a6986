use Rattle.std.proofs.Common.{◌↔◌, Contains, refl, subst}
use Rattle.std.proofs.lemmas.List.{take_all}
use Rattle.block_pointer.specs.declared.block.Block.{Block}
use Rattle.dnode_tree.proofs.Leaving.{set_more}
use Rattle.dnode_tree.proofs.freeing.set_of.Goals as goal

pub loop-block-preserved : goal.loop-block-preserved
loop-block-preserved c = set_more _ _ _ _ c.loop-block-test.true refl _ _ c.loop-block.invariant c.in_ok-add.ensures.kept

pub returns : goal.returns
returns c = subst (λ all. (block : Block) → Contains c.loop-block.found.keys block ↔ Contains all block) (take_all c.loop-block.block-index c.args.blocks.now c.loop-block-test.false) c.loop-block.invariant
