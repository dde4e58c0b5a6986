use Rattle.std.proofs.Common.{ℕ, Vec, Global, rules, tests, ap, ◌∙◌}
use Rattle.std.specs.Prelude.{◌&&◌}
use Rattle.std.proofs.lemmas.Iterator.Consumers.{YieldsList-from_rest}
use Rattle.std.proofs.lemmas.Iterator.Search.{any_from_yields_List}
use Rattle.std.proofs.lemmas.List.Elements.{recursion_from_All}
use Rattle.pool_model.specs.Names.{same, volume_part}
use Rattle.pool_model.specs.Pools.{is_snapshot, is_snapshot_of}
use Rattle.volume_rules.specs.declared.shape.VolumeEntry.{VolumeEntry}
use Rattle.volume_rules.proofs.Indexes.{any_entry}
use Rattle.volume_rules.proofs.index.NameIndex.has_snapshots.Goals as goal

pub returns : goal.returns
returns c = λ pool k.
    let name = c.args.name.now in
    let entries = c.args.self.now.entries.entries in
    any_from_yields_List (λ (e : Vec ℕ Global × VolumeEntry). is_snapshot e.1.shape.kind && same (volume_part e.0.items) name) _ _ c.any.result c.any.ensures.ran (YieldsList-from_rest entries c.iter.ensures.rest) (λ x b q h. search (rules, tests))
    ∙ any_entry (λ key. key.items) (λ e. is_snapshot e.1.shape.kind && same (volume_part e.0.items) name) (is_snapshot_of name) entries pool k.entries k.ascending
    (recursion_from_All _ entries c.iter.ensures.found) (λ key v h. ap (λ called. is_snapshot v.kind && same (volume_part called) name) h)
