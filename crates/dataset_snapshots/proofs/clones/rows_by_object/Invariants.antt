use Rattle.std.proofs.Common.{take}
use Rattle.dataset_snapshots.specs.Clones.{IsRowIndex}
use Rattle.dataset_snapshots.proofs.clones.rows_by_object.Given as goal

-- the index is that of the rows so far
abbrev pub invariant-loop-row : goal.invariant-loop-row
invariant-loop-row l = IsRowIndex (take l.row-index l.rows) l.index
