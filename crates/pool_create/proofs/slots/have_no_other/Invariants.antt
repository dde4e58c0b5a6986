use Rattle.std.proofs.Common.{◌≡◌, ◌<◌, ℕ}
use Rattle.uberblock_ring.specs.Ranking.{Has}
use Rattle.uberblock_ring.specs.declared.uberblock.Uberblock.{Uberblock}
use Rattle.pool_create.proofs.slots.have_no_other.Given as goal

abbrev pub invariant-loop-i : goal.invariant-loop-i
invariant-loop-i l = (j : ℕ) (v : Uberblock) → j < l.i → Has l.slots j v → v ≡ l.uberblock
