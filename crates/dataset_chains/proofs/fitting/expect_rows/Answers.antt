use Rattle.std.proofs.Common.{All, List, IsTrue, Bool, subst, sym, refl}
use Rattle.std.proofs.lemmas.List.{take_all}
use Rattle.std.proofs.lemmas.List.Elements.{All-more}
use Rattle.block_pointer.specs.Block.{FitsBlock}
use Rattle.block_pointer.specs.declared.block.Block.{Block}
use Rattle.dataset_chains.proofs.fitting.expect_rows.Goals as goal

pub loop-block-preserved : goal.loop-block-preserved
loop-block-preserved c =
    All-more FitsBlock c.args.blocks.now c.loop-block.block-index _ c.loop-block-test.true c.loop-block.invariant
    (c.can_stand.ensures.0 (subst (λ (b : Bool). IsTrue b) (sym c.if-not-can_stand.false) refl))

pub returns-clause-fit : goal.returns-clause-fit
returns-clause-fit c = subst (λ (all : List Block). All FitsBlock all) (take_all c.loop-block.block-index c.args.blocks.now c.loop-block-test.false) c.loop-block.invariant
