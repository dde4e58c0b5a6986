use Rattle.std.proofs.Common.{Option, sym, subst}
use Rattle.objset.specs.Changes.{MayChange, after_change}
use Rattle.objset.specs.Objects.{Object}
use Rattle.space_map_objects.specs.Maps.{HasCondensedMap}
use Rattle.pool_maps.proofs.Short.{condensed_says}
use Rattle.pool_maps.proofs.changing.shortest_map.Goals as goal

pub returns-in-Ok-clause-value : goal.returns-in-Ok-clause-value
returns-in-Ok-clause-value c = λ object before has.
    let there = has.1.there in
    let kind = has.1.of_kind in (
      subst (MayChange c.in-Ok.change) (sym has.1.is) (c.in-Ok.ensures.may there kind),
      condensed_says (after_change c.in-Ok.change object) c.args.update.now c.requires
          (subst (λ (o : Option Object). HasCondensedMap (after_change c.in-Ok.change o) c.args.update.now.free) (sym has.1.is) (c.in-Ok.ensures.made there kind)),
    )
