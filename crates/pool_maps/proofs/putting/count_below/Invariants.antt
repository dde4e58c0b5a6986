use Rattle.std.proofs.Common.{ℕ, ◌<◌, get_or}
use Rattle.objset.specs.declared.changes.ObjectChange.{ObjectChange}
use Rattle.pool_maps.proofs.putting.count_below.Given as goal

abbrev pub invariant-loop-i : goal.invariant-loop-i
invariant-loop-i l = (k : ℕ) (other : ObjectChange) → k < l.i → (get_or l.changes k other).number < l.number
