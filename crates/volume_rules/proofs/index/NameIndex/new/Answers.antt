use Rattle.pool_model.proofs.Places.{ascending_none}
use Rattle.volume_rules.proofs.Indexes.{no_entries}
use Rattle.volume_rules.proofs.index.NameIndex.new.Goals as goal

pub returns : goal.returns
returns c = record {
  entries = no_entries (λ key. key.items) c.new.result.entries c.new.ensures.empty;
  ascending = ascending_none;
}
