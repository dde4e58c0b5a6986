use Rattle.std.proofs.Common.{◌≡◌, None, ap, ◌∙◌, subst}
use Rattle.std.specs.Map.{lookup}
use Rattle.pool_model.specs.Names.{same}
use Rattle.volume_rules.proofs.Indexes.{ascending_without, entries_without}
use Rattle.volume_rules.proofs.index.NameIndex.remove.Goals as goal

pub returns : goal.returns
returns c = λ pool k.
    let name = c.args.name.now in
    let updates = c.remove.ensures.updates in
    record {
      entries = entries_without (λ key. key.items) c.args.self.now.entries.entries c.remove.new.self.entries name pool k.entries
          (subst (λ gone. lookup (λ key. same gone key.items) c.remove.new.self.entries ≡ None) c.as_slice.ensures updates.1)
          (λ q e. updates.2 q (ap (λ gone. same gone q.items) c.as_slice.ensures ∙ e));
      ascending = ascending_without name pool k.ascending;
    }
