use Rattle.std.proofs.Common.{ℕ, List, ◌++◌, Some, Option, sym, subst}
use Rattle.objset.specs.Changes.{MayChange, after_change}
use Rattle.objset.specs.Objects.{Object}
use Rattle.object_table.specs.Ends.{IsEndOf}
use Rattle.object_table.specs.Tables.{HasTable}
use Rattle.space_map_objects.specs.Maps.{map_kind}
use Rattle.pool_maps.proofs.Sets.{updated}
use Rattle.pool_maps.proofs.Short.{few_more}
use Rattle.pool_maps.proofs.changing.more_entries.Goals as goal

pub returns-in-Ok-clause-value : goal.returns-in-Ok-clause-value
returns-in-Ok-clause-value c = λ object before ends has leads.
    let there = has.1.there in
    let kind = has.1.of_kind in
    let end = subst (λ (o : Option Object). IsEndOf map_kind o has.0 c.args.end.now) has.1.is (ends has.0 has.1) in (
      subst (MayChange c.in-Ok.change) (sym has.1.is) (c.in-Ok.ensures.may there kind),
      record {
        bytes = has.0 ++ c.args.update.now.entries.items;
        table = subst (λ (o : Option Object). HasTable map_kind (after_change c.in-Ok.change o) (has.0 ++ c.args.update.now.entries.items)) (sym has.1.is)
            (subst (λ (entries : List ℕ). HasTable map_kind (after_change c.in-Ok.change (Some there)) (has.0 ++ entries)) c.deref.ensures.value (c.in-Ok.ensures.made there has.0 end));
        leaves = updated before c.args.update.now has.0 leads has.2;
        few = few_more has.0 c.args.update.now.entries.items c.args.end.now.rows c.args.update.now.free end.count c.requires.rows c.requires.few;
      },
    )
