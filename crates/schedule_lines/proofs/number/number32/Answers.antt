use Rattle.std.proofs.Common.{sym, ◌∙◌, arith}
use Rattle.schedule_lines.proofs.Texts.{larger_none, narrowed}
use Rattle.schedule_lines.proofs.number.number32.Goals as goal

pub returns-in_default : goal.returns-in_default
returns-in_default c = larger_none _ c.args.word.now (omega arith) (sym c.number64.ensures ∙ c.in_default.is)

pub returns : goal.returns
returns c = c.ok.ensures.value ∙ narrowed c.args.word.now c.in-Some.number c.try_from.result (sym c.number64.ensures ∙ c.in-Some.is) c.try_from.ensures
