use Rattle.object_table.proofs.Tables.{IsUnderway}
use Rattle.object_table.proofs.reading.read_blocks.Given as goal

abbrev pub invariant-loop-id : goal.invariant-loop-id
invariant-loop-id g l = IsUnderway l.fn.store l.store l.missing l.set l.birth l.number l.id l.bytes.items
