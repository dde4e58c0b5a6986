use Rattle.std.proofs.Common.{◌≡◌, ◌-◌, ◌^◌, min, take}
use Rattle.pool_open.specs.Words.{sectors_in}
use Rattle.pool_open.proofs.tolerance.count_sectors.Given as goal

abbrev pub invariant-loop-index : goal.invariant-loop-index
invariant-loop-index l = l.count ≡ min (sectors_in (take l.index l.shapes)) (2 ^ 64 - 1)
