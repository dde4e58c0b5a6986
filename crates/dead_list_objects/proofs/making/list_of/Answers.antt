use Rattle.std.proofs.Common.{List, sym, subst}
use Rattle.std.specs.Prelude.{IsPermutation}
use Rattle.std.proofs.lemmas.List.{take_more}
use Rattle.std.proofs.lemmas.List.Sorted.{IsPermutation-push_more}
use Rattle.block_pointer.specs.declared.block.Block.{Block}
use Rattle.dead_list_objects.proofs.making.list_of.Goals as goal

pub loop-block-preserved : goal.loop-block-preserved
loop-block-preserved c =
    subst (λ (front : List Block). IsPermutation front c.push.new.self) (sym (take_more c.args.blocks.now c.loop-block.block-index _ c.loop-block-test.true))
    (IsPermutation-push_more _ _ _ _ c.loop-block.invariant c.in_ok-push.ensures.ok)
