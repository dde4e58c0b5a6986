use Rattle.std.proofs.Common.{◌∙◌, ap}
use Rattle.std.specs.Prelude.{option_map}
use Rattle.pool_command.specs.Values.{or_missing}
use Rattle.pool_command.proofs.Getters.{is_text}
use Rattle.pool_command.proofs.values.text.Goals as goal

pub returns-in-Some : goal.returns-in-Some
returns-in-Some c = ap or_missing (is_text c.args.matches.now c.args.id.now c.get_str.result c.get_str.ensures ∙ ap (option_map (λ s. s.now)) c.in-Some.is)

pub returns-in-None : goal.returns-in-None
returns-in-None c = ap or_missing (is_text c.args.matches.now c.args.id.now c.get_str.result c.get_str.ensures ∙ ap (option_map (λ s. s.now)) c.in-None.is)
