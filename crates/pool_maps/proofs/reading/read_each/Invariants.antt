use Rattle.std.proofs.Common.{take}
use Rattle.pool_maps.proofs.ReadRows.{ReadUpTo}
use Rattle.pool_maps.proofs.reading.read_each.Given as goal

-- the maps of the rows so far were read
abbrev pub invariant-loop-row : goal.invariant-loop-row
invariant-loop-row g l = ReadUpTo l.fn.store l.store l.missing l.set l.birth (take l.row-index l.rows) l.read.items
