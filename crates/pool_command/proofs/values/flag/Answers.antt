use Rattle.std.proofs.Common.{◌∙◌, Option, List, ℕ, Bool, false, ap, codes, sym}
use Rattle.std.specs.Prelude.{option_map}
use Rattle.std.specs.Option.{option_map_or}
use Rattle.std.specs.Str.{bytes_eq}
use Rattle.pool_command.proofs.Getters.{is_text}
use Rattle.pool_command.proofs.values.flag.Goals as goal

abbrev is_true : Option (List ℕ) → Bool
is_true text = option_map_or (λ t. bytes_eq t (codes "true")) text false

pub returns-in-Some : goal.returns-in-Some
returns-in-Some c = c.eq.ensures ∙ ap is_true (sym (is_text c.args.matches.now c.args.id.now c.get_str.result c.get_str.ensures ∙ ap (option_map (λ s. s.now)) c.in-Some.is))

pub returns-in-None : goal.returns-in-None
returns-in-None c = ap is_true (sym (is_text c.args.matches.now c.args.id.now c.get_str.result c.get_str.ensures ∙ ap (option_map (λ s. s.now)) c.in-None.is))
