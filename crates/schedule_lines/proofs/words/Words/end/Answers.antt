use Rattle.std.proofs.Common.{ap, sym, ◌∙◌}
use Rattle.std.specs.Option.{option_copied}
use Rattle.schedule_lines.specs.Reading.{words_left, end_at}
use Rattle.schedule_lines.proofs.Splitting.{some_word_left}
use Rattle.schedule_lines.proofs.words.Words.end.Goals as goal

pub returns-in-Some : goal.returns-in-Some
returns-in-Some c =
    ap end_at (sym c.self.view_is ∙ ap (λ r. words_left (option_copied r)) c.in-Some.is) ∙ some_word_left c.in-Some.field-0.now
