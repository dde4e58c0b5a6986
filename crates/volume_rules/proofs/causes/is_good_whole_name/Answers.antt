use Rattle.std.proofs.Common.{◌+◌, ◌-◌, length, take, drop, sym, ap, ◌∙◌}
use Rattle.std.specs.Prelude.{◌&&◌}
use Rattle.pool_model.specs.Names.{is_name, is_whole_name}
use Rattle.volume_rules.proofs.WholeNames.{whole_at}
use Rattle.volume_rules.proofs.causes.is_good_whole_name.Goals as goal

pub returns-then-are_good_letters : goal.returns-then-are_good_letters
returns-then-are_good_letters c =
    let letters = c.as_slice-letters.result.now in
    let behind = take (length letters - (c.in-Some.end + 1)) (drop (c.in-Some.end + 1) letters) in
    c.are_good_letters-then-are_good_letters.ensures
    ∙ (ap (λ b. b && is_name behind) (sym c.if-are_good_letters.true ∙ c.are_good_letters.ensures)
    ∙ (whole_at letters c.in-Some.end (sym c.first_at_sign.ensures ∙ c.in-Some.is)
    ∙ ap is_whole_name c.as_slice-letters.ensures))

pub returns-else-are_good_letters : goal.returns-else-are_good_letters
returns-else-are_good_letters c =
    let letters = c.as_slice-letters.result.now in
    let behind = take (length letters - (c.in-Some.end + 1)) (drop (c.in-Some.end + 1) letters) in
    c.if-are_good_letters.false
    ∙ (ap (λ b. b && is_name behind) (sym c.if-are_good_letters.false ∙ c.are_good_letters.ensures)
    ∙ (whole_at letters c.in-Some.end (sym c.first_at_sign.ensures ∙ c.in-Some.is)
    ∙ ap is_whole_name c.as_slice-letters.ensures))
