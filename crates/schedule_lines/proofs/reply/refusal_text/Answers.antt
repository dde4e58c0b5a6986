use Rattle.std.proofs.Common.{◌∷◌, sym, ap, string_bytes}
use Rattle.std.specs.Fmt.{decimal}
use Rattle.schedule_lines.specs.Replies.{argument_text}
use Rattle.schedule_lines.proofs.Printing.{if_printed, refused, refused_plainly}
use Rattle.schedule_lines.proofs.reply.refusal_text.Goals as goal

pub returns-in-OutOfOrder : goal.returns-in-OutOfOrder
returns-in-OutOfOrder c = if_printed string_bytes c.format.result _ _ c.format.ensures.ok (refused c.args.refusal.now c.number-number.result c.name-name.result.now (32 ∷ decimal c.in-OutOfOrder.expected) c.number-number.ensures c.name-name.ensures (sym (ap argument_text c.in-OutOfOrder.is)))

pub returns-in_default : goal.returns-in_default
returns-in_default c = if_printed string_bytes c.format-in_default.result _ _ c.format-in_default.ensures.ok (refused_plainly c.args.refusal.now c.number-number.result c.name-name.result.now c.number-number.ensures c.name-name.ensures c.in_default.not-OutOfOrder)
