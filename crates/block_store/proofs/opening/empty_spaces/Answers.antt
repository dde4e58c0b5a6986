use Rattle.std.proofs.Common.{rules, ◌≡◌, ◌++◌, ◌∷◌, [], sym, ap, subst, ◌∙◌}
use Rattle.block_store.specs.Places.{shapes_of, AreEmpty}
use Rattle.block_store.proofs.Making.{empty_more}
use Rattle.block_store.proofs.Reopening.{shapes_more}
use Rattle.block_store.proofs.opening.empty_spaces.Goals as goal

pub loop-shape-preserved : goal.loop-shape-preserved
loop-shape-preserved c =
    let items : c.push.new.self.items ≡ c.loop-shape.spaces.items ++ c.in_ok-space.space ∷ [] = search rules in (
      ap shapes_of items
          ∙ shapes_more c.loop-shape.spaces.items c.in_ok-space.space c.args.shapes.now c.loop-shape.shape-index _ c.loop-shape.invariant.0 c.loop-shape-test.true
          (c.in_ok-space.ensures.shape ∙ c.shape-item.is),
      subst AreEmpty (sym items) (empty_more _ c.in_ok-space.space c.loop-shape.invariant.1 c.in_ok-space.ensures.empty),
    )
