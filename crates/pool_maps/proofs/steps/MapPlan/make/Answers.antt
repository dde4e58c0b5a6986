use Rattle.std.proofs.Common.{rules, List, refl, subst}
use Rattle.meta_objset.specs.SpaceMaps.{IsWithMap}
use Rattle.meta_objset.specs.declared.space_maps.MetaslabMap.{MetaslabMap}
use Rattle.pool_maps.proofs.steps.MapPlan.make.Goals as goal

pub returns-clause-made : goal.returns-clause-made
returns-clause-made c =
    let by = c.in_ok-put.ensures.put in (
      c.in_ok-change.change,
      record {
        put = by.put;
        lacks = c.requires.lacks;
        within = search rules;
        maps = subst (λ (maps : List MetaslabMap). IsWithMap maps (record { metaslab = c.args.place; object = c.args.self.now.next }) c.set.new.self) by.maps c.in_ok-set.ensures.set;
        order = c.in_ok-set.ensures.order;
        grown = refl;
        next = refl;
      },
      c.in_ok-change.ensures.may,
      c.in_ok-change.ensures.value,
    )
