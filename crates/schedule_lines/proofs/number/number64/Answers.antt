use Rattle.std.proofs.Common.{◌∙◌, arith}
use Rattle.schedule_lines.proofs.Texts.{not_text, not_parsed, printed, not_printed}
use Rattle.schedule_lines.proofs.number.number64.Goals as goal

pub returns-in_default : goal.returns-in_default
returns-in_default c = not_text c.args.word.now c.in_default.ensures.cases.0

pub returns-in_default-parse : goal.returns-in_default-parse
returns-in_default-parse c = not_parsed c.args.word.now c.parse.result c.in_default-parse.field-0 (rw c.in-Ok.ensures.cases.0 at c.parse.ensures.value.0) c.in_default-parse.is

pub returns-then-eq : goal.returns-then-eq
returns-then-eq c = printed c.args.word.now c.as_bytes.result.now c.in-Ok-parse.number c.eq.result (omega arith) (c.as_bytes.ensures.value ∙ c.format.ensures.text) c.eq.ensures c.if-eq.true

pub returns-else-eq : goal.returns-else-eq
returns-else-eq c = not_printed c.args.word.now c.as_bytes.result.now c.parse.result c.in-Ok-parse.number c.eq.result (rw c.in-Ok.ensures.cases.0 at c.parse.ensures.value.0) c.in-Ok-parse.is (c.as_bytes.ensures.value ∙ c.format.ensures.text) c.eq.ensures c.if-eq.false
