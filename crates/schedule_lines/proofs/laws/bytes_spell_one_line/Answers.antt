use Rattle.schedule_lines.proofs.Lines.{one_line}
use Rattle.schedule_lines.proofs.laws.bytes_spell_one_line.Goals as goal

pub returns : goal.returns
returns c = one_line
