use Rattle.std.proofs.Common.{Some, sym, ap, ◌∙◌}
use Rattle.pool_model.specs.Pools.{volume_at}
use Rattle.pool_model.proofs.Places.{ascending_more}
use Rattle.volume_rules.proofs.Indexes.{on_ok, entries_added}
use Rattle.volume_rules.proofs.index.NameIndex.add.Goals as goal

pub returns : goal.returns
returns c = λ pool volume k none is.
    let updates = on_ok c.insert.result (c.insert.ensures.succeeds c.requires) c.insert.ensures.updates in
    record {
      entries = entries_added (λ key. key.items) c.args.self.now.entries.entries c.insert.new.self.entries c.into_vec.result pool volume k.entries
          (ap (λ name. volume_at name pool) c.into_vec.ensures ∙ none) (is.name ∙ sym c.into_vec.ensures)
          (updates.1 ∙ ap Some (sym is.entry)) updates.2;
      ascending = ascending_more pool volume k.ascending;
    }
