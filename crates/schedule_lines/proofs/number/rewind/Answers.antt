use Rattle.std.proofs.Common.{sym, ◌∙◌, arith}
use Rattle.schedule_lines.proofs.Texts.{larger_none, smaller_some, too_large}
use Rattle.schedule_lines.proofs.number.rewind.Goals as goal

pub returns-in_default : goal.returns-in_default
returns-in_default c = larger_none 3 c.args.word.now (omega arith) (sym c.number64.ensures ∙ c.in_default.is)

pub returns-then-number-lt3 : goal.returns-then-number-lt3
returns-then-number-lt3 c = smaller_some 3 c.in-Some.number c.args.word.now (sym c.number64.ensures ∙ c.in-Some.is) (omega arith)

pub returns-else-number-lt3 : goal.returns-else-number-lt3
returns-else-number-lt3 c = too_large 3 c.args.word.now c.in-Some.number (omega arith) (sym c.number64.ensures ∙ c.in-Some.is) (omega arith)
