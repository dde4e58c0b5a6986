use Rattle.std.proofs.Common.{◌≡◌, false, true, refl, rules, subst}
use Rattle.std.proofs.lemmas.List.{take_all}
use Rattle.dnode_tree.proofs.Counts.{once_more, found_twice}
use Rattle.dnode_tree.proofs.Leaving.{set_more}
use Rattle.dnode_tree.specs.Rewriting.{AreDistinct}
use Rattle.dnode_tree.proofs.within.are_distinct.Goals as goal

pub loop-block-preserved : goal.loop-block-preserved
loop-block-preserved c =
    let test : c.in_ok-is_new.is_new ≡ true = search rules in (
      set_more _ _ _ _ c.loop-block-test.true refl _ _ c.loop-block.invariant.0 c.in_ok-is_new.ensures.kept,
      once_more _ _ _ _ _ _ c.loop-block-test.true refl c.loop-block.invariant.1 c.loop-block.invariant.0 c.in_ok-is_new.ensures.new test,
    )

pub returns : goal.returns
returns c =
    let all : AreDistinct c.args.blocks.now = subst (λ bs. AreDistinct bs) (take_all c.loop-block.block-index c.args.blocks.now c.loop-block-test.false) c.loop-block.invariant.1 in
    (λ told. all, λ told. search rules)

pub returns-then-not-is_new : goal.returns-then-not-is_new
returns-then-not-is_new c =
    let test : c.in_ok-is_new.is_new ≡ false = search rules in
    let twice = found_twice _ _ _ _ _ _ c.loop-block-test.true refl c.loop-block.invariant.1 c.loop-block.invariant.0 c.in_ok-is_new.ensures.new test in
    (λ told. absurd cc, λ distinct. absurd (twice distinct))
