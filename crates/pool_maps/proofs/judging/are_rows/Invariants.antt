use Rattle.std.proofs.Common.{take}
use Rattle.pool_maps.proofs.Judged.{JudgedTo}
use Rattle.pool_maps.proofs.judging.are_rows.Given as goal

-- the rows so far are a pool's
abbrev pub invariant-loop-i : goal.invariant-loop-i
invariant-loop-i g l = JudgedTo l.store.spaces (take l.i l.rows)
