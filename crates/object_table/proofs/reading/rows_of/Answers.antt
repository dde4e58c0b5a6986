use Rattle.std.proofs.Common.{inr, refl, ap, Err}
use Rattle.object_table.proofs.reading.rows_of.Goals as goal

pub returns-in-Err-BadPointer-clause-refused : goal.returns-in-Err-BadPointer-clause-refused
returns-in-Err-BadPointer-clause-refused c = inr (refl, c.in-Err-BadPointer.ensures.bad (ap Err c.in-Err-BadPointer.field-0-is))
