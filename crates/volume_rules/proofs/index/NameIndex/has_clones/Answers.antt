use Rattle.std.proofs.Common.{ℕ, Vec, Global, rules, tests, refl, ◌∙◌}
use Rattle.std.proofs.lemmas.Iterator.Consumers.{YieldsList-from_rest}
use Rattle.std.proofs.lemmas.Iterator.Search.{any_from_yields_List}
use Rattle.std.proofs.lemmas.List.Elements.{recursion_from_All}
use Rattle.pool_model.specs.Pools.{is_clone_of, is_origin}
use Rattle.volume_rules.specs.declared.shape.VolumeEntry.{VolumeEntry}
use Rattle.volume_rules.proofs.Indexes.{any_entry}
use Rattle.volume_rules.proofs.index.NameIndex.has_clones.Goals as goal

pub returns : goal.returns
returns c = λ pool k.
    let name = c.args.name.now in
    let entries = c.args.self.now.entries.entries in
    any_from_yields_List (λ (e : Vec ℕ Global × VolumeEntry). is_origin name e.1.origin) _ _ c.any.result c.any.ensures.ran (YieldsList-from_rest entries c.iter.ensures.rest) (λ x b q h. search (rules, tests))
    ∙ any_entry (λ key. key.items) (λ e. is_origin name e.1.origin) (is_clone_of name) entries pool k.entries k.ascending
    (recursion_from_All _ entries c.iter.ensures.found) (λ key v h. refl)
