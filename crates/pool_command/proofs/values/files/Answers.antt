use Rattle.std.proofs.Common.{◌∙◌, List, ℕ, Ok, map, sym, ap}
use Rattle.std.specs.Prelude.{option_map}
use Rattle.pool_command.specs.Values.{or_missing}
use Rattle.pool_command.proofs.Getters.{are_files}
use Rattle.pool_command.proofs.values.files.Goals as goal

pub returns-in_default : goal.returns-in_default
returns-in_default c = ap or_missing (are_files c.args.matches.now c.get_strs.result c.get_strs.ensures ∙ ap (option_map (λ s. map (λ v. v.now) s.now)) c.in_default.is)

pub returns : goal.returns
returns c =
    ap or_missing (are_files c.args.matches.now c.get_strs.result c.get_strs.ensures ∙ ap (option_map (λ s. map (λ v. v.now) s.now)) c.in-Some.is)
    ∙ ap (λ (files : List (List ℕ)). Ok files) (sym c.in_ok-of.ensures)
