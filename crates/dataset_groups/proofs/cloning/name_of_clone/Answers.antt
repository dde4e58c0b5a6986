use Rattle.std.proofs.Common.{rules, ◌≡◌, true, sym, subst}
use Rattle.meta_objset.specs.Names.{IsNamed}
use Rattle.pool_model.specs.Names.{is_name}
use Rattle.dataset_groups.proofs.GoodNames.{good_named}
use Rattle.dataset_groups.proofs.RowNames.{named_one, never_bad}
use Rattle.dataset_groups.proofs.cloning.name_of_clone.Goals as goal

-- a good name can stand in a row
pub returns-clause-refused : goal.returns-clause-refused
returns-clause-refused c =
    let good : is_name c.args.name.now ≡ true = search rules in
    let same : c.as_slice.result.now ≡ c.args.name.now = search rules in
    never_bad c.padded.result c.ok_or.result _ c.ok_or.ensures.value
    (named_one c.as_slice.result.now c.padded.result c.padded.ensures.none _ (subst (IsNamed _) (sym same) (good_named c.args.name.now good)))
