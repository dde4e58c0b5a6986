use Rattle.std.proofs.Common.{[], inl, inr, refl, sym, subst}
use Rattle.std.proofs.lemmas.List.{take_all}
use Rattle.dnode_tree.proofs.Leaving.{IsLeaving, leaving_begins, leaving_new, leaving_known}
use Rattle.dnode_tree.specs.Freeing.{AreOnlyIn}
use Rattle.dnode_tree.proofs.freeing.blocks_without.Goals as goal

pub loop-block-init : goal.loop-block-init
loop-block-init c =
    subst (λ left. IsLeaving [] c.args.others.now c.in_ok-seen.seen.keys left) (sym c.new-left.ensures.items) (leaving_begins _ _ c.in_ok-seen.ensures)

pub loop-block-preserved : goal.loop-block-preserved
loop-block-preserved c = elim c.in_ok-leave.ensures.left [
  | inl new ↦ subst (IsLeaving _ _ _) (sym new.1) (leaving_new _ _ _ _ c.loop-block-test.true refl _ _ _ _ c.loop-block.invariant c.in_ok-leave.ensures.seen new.0)
  | inr known ↦ subst (IsLeaving _ _ _) (sym known.1) (leaving_known _ _ _ _ c.loop-block-test.true refl _ _ _ _ c.loop-block.invariant c.in_ok-leave.ensures.seen known.0)
]

pub returns : goal.returns
returns c = subst (λ all. AreOnlyIn all c.args.others.now c.loop-block.left.items) (take_all c.loop-block.block-index c.args.blocks.now c.loop-block-test.false) c.loop-block.invariant.left_are
