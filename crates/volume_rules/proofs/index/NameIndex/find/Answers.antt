use Rattle.std.proofs.Common.{Some, ap, ◌∙◌}
use Rattle.std.specs.HashMap.{get_by}
use Rattle.pool_model.specs.Names.{same}
use Rattle.volume_rules.proofs.Indexes.{shape_found}
use Rattle.volume_rules.proofs.index.NameIndex.find.Goals as goal

pub returns : goal.returns
returns c = λ pool k.
    shape_found pool c.args.name.now (Some c.in_ok-entry.entry.now)
    (c.in_ok-entry.ensures.value ∙ (ap (λ name. get_by (λ key. same name key.items) c.args.self.now.entries) c.as_slice.ensures ∙ k.entries c.args.name.now))
