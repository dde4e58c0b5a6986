use Rattle.std.proofs.Common.{take}
use Rattle.nvlist.proofs.TextLemmas.{printable_is_utf8, padded_is_printable}
use Rattle.nvlist.proofs.reading.padded_of.Goals as goal

pub returns-in_default : goal.returns-in_default
returns-in_default c =
    let padded = padded_is_printable c.args.len c.split_at.result.0.now (cc) in
    absurd (c.in_default.ensures.cases.0 (printable_is_utf8 (take c.args.len c.split_at.result.0.now) padded))
