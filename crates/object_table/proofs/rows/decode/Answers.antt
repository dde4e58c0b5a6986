use Rattle.std.proofs.Common.{◌∙◌}
use Rattle.object_table.proofs.rows.decode.Goals as goal

pub returns-clause-only : goal.returns-clause-only
returns-clause-only c = λ rows spells. c.in_ok-from_slice.ensures.items ∙ c.in-Some.ensures.only rows spells
