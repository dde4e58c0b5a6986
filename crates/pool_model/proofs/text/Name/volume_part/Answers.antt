use Rattle.std.proofs.Common.{rules, tests, ℕ, ◌≡◌, length, ap, ◌∙◌}
use Rattle.std.specs.Prelude.{◌==◌}
use Rattle.std.proofs.lemmas.Iterator.{YieldsList-from_slice}
use Rattle.std.proofs.lemmas.Iterator.Search.{position_from_yields_List}
use Rattle.pool_model.proofs.Placing.{found_or_end}
use Rattle.pool_model.proofs.text.Name.volume_part.Goals as goal

pub returns : goal.returns
returns c =
    let found = position_from_yields_List (λ (d : ℕ). d == 64) _ _ c.position.result c.position.ensures.ran (YieldsList-from_slice _ c.iter.ensures.rest) (λ x b q k. search (rules, tests)) in
    let whole : c.as_slice-letters.result.now ≡ c.args.self.now = search rules in
    let len : length c.as_slice-letters.result.now ≡ length c.args.self.now = ap length whole in
    let place = found_or_end (λ (d : ℕ). d == 64) c.as_slice-letters.result.now c.position.result c.unwrap_or-end.result found c.unwrap_or-end.ensures in
    c.in_ok-letters.ensures.items ∙ search rules
