use Rattle.std.proofs.Common.{ap, sym, take, ◌==◌, ◌∙◌}
use Rattle.std.specs.List.{position}
use Rattle.pool_model.specs.Names.{is_name}
use Rattle.volume_rules.proofs.WholeNames.{good_before, none_good}
use Rattle.volume_rules.proofs.causes.is_good_name_of_snapshot.Goals as goal

pub returns-in-Some : goal.returns-in-Some
returns-in-Some c =
    c.are_good_letters.ensures
    ∙ (ap (λ xs. is_name (take c.in-Some.end xs)) c.as_slice-letters.ensures
    ∙ good_before c.args.name.now c.in-Some.end (ap (λ xs. position (λ d. d == 64) xs) (sym c.as_slice-letters.ensures) ∙ (sym c.first_at_sign.ensures ∙ c.in-Some.is)))

pub returns-in-None : goal.returns-in-None
returns-in-None c = none_good c.args.name.now (ap (λ xs. position (λ d. d == 64) xs) (sym c.as_slice-letters.ensures) ∙ (sym c.first_at_sign.ensures ∙ c.in-None.is))
