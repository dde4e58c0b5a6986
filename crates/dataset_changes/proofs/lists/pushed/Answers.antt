use Rattle.std.proofs.Common.{◌++◌, List, IsPermutation, append_assoc, ap, sym, subst, ◌∙◌}
use Rattle.std.proofs.lemmas.List.{take_more}
use Rattle.std.proofs.lemmas.List.Sorted.{IsPermutation-push_more}
use Rattle.block_pointer.specs.declared.block.Block.{Block}
use Rattle.dataset_changes.proofs.lists.pushed.Goals as goal

pub loop-block-preserved : goal.loop-block-preserved
loop-block-preserved c =
    let longer = take_more c.args.added.now c.loop-block.block-index _ c.loop-block-test.true in
    subst (λ (all : List Block). IsPermutation all c.push.new.self) (sym (ap (λ (front : List Block). c.args.list ++ front) longer ∙ sym (append_assoc c.args.list _ _)))
    (IsPermutation-push_more _ _ _ _ c.loop-block.invariant c.in_ok-push.ensures.ok)
