use Rattle.schedule_lines.specs.Grammar.{words_of}
use Rattle.schedule_lines.proofs.Spelling.{spelled_joined}
use Rattle.schedule_lines.proofs.writing.line_bytes.Goals as goal

pub returns : goal.returns
returns c = rw (← spelled_joined (words_of c.args.command.now)) c.bytes_of.ensures
