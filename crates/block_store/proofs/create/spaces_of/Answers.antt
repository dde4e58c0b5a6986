use Rattle.std.proofs.Common.{rules, ◌≡◌, ◌++◌, ◌∷◌, [], inr, refl, sym, subst, ◌∙◌}
use Rattle.block_store.specs.Config.{IsShapeOf}
use Rattle.block_store.specs.Places.{AreEmpty}
use Rattle.block_store.proofs.Making.{AreSpacesBefore, no_shape, all_made, before_more, empty_more}
use Rattle.block_store.proofs.create.spaces_of.Goals as goal

pub returns-in_default-clause-refused : goal.returns-in_default-clause-refused
returns-in_default-clause-refused g c =
    inr (refl, no_shape _ _ _ _ _ _ c.loop-config.invariant.0 c.loop-config-test.true c.config-item.is c.in_default.ensures.none)

pub returns-clause-ok : goal.returns-clause-ok
returns-clause-ok g c =
    all_made _ _ _ _ _ c.loop-config.invariant.0 c.loop-config-test.false (c.if-first-count.false ∙ c.len-count.ensures)

pub loop-config-preserved : goal.loop-config-preserved
loop-config-preserved g c =
    let items : c.push.new.self.items ≡ c.loop-config.spaces.items ++ c.in_ok-space.space ∷ [] = search rules in (
      subst (AreSpacesBefore c.args.disks.now.starts c.args.vdevs.now _ _) (sym items)
          (before_more _ _ _ _ _ c.config-item.result c.in_ok-space.space c.loop-config.invariant.0 c.loop-config-test.true c.config-item.is
          (subst (IsShapeOf _ _ _) (sym c.in_ok-space.ensures.shape) c.in-Some.ensures.some)),
      subst AreEmpty (sym items) (empty_more _ c.in_ok-space.space c.loop-config.invariant.1 c.in_ok-space.ensures.empty),
    )
