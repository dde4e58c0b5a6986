use Rattle.std.proofs.Common.{rules, tests, ℕ}
use Rattle.std.specs.Prelude.{◌==◌}
use Rattle.std.proofs.lemmas.Iterator.{YieldsList-from_slice}
use Rattle.std.proofs.lemmas.Iterator.Search.{position_from_yields_List}
use Rattle.pool_model.proofs.Placing.{found_or_end}
use Rattle.volume_rules.proofs.index.is_part_of_volume.Goals as goal

pub returns : goal.returns
returns c =
    let found = position_from_yields_List (λ (d : ℕ). d == 64) _ _ c.position.result c.position.ensures.ran (YieldsList-from_slice _ c.iter.ensures.rest) (λ x b q k. search (rules, tests)) in
    let place = found_or_end (λ (d : ℕ). d == 64) c.args.name.now c.position.result c.unwrap_or-end.result found c.unwrap_or-end.ensures in
    search rules
