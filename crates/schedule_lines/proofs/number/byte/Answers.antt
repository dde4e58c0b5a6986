use Rattle.std.proofs.Common.{rules, arith, ◌∙◌}
use Rattle.schedule_lines.proofs.Texts.{byte_none, two_digits}
use Rattle.schedule_lines.proofs.number.byte.Goals as goal

pub returns-in_default : goal.returns-in_default
returns-in_default c = byte_none c.args.word.now (search rules)

pub returns-in_default-2 : goal.returns-in_default-2
returns-in_default-2 c = byte_none c.args.word.now (search rules)

pub returns-in_err-hexadecimal : goal.returns-in_err-hexadecimal
returns-in_err-hexadecimal c = c.from_residual.ensures ∙ byte_none c.args.word.now (search rules)

pub returns-in_err-hexadecimal-2 : goal.returns-in_err-hexadecimal-2
returns-in_err-hexadecimal-2 c = c.from_residual-in_err-hexadecimal-2.ensures ∙ byte_none c.args.word.now (search rules)

pub returns : goal.returns
returns c =
    let first = c.in_ok-hexadecimal.ensures in
    let second = c.in_ok-hexadecimal-2.ensures in
    two_digits c.args.word.now c.in_ok-hexadecimal.field-0 c.in_ok-hexadecimal-2.field-0 (omega arith) first.1 second.1 first.0 second.0
