use Rattle.std.proofs.Common.{◌≢◌, ◌<◌, ℕ, get_or}
use Rattle.vdev_label.proofs.limits.are_guids.Given as goal

abbrev pub invariant-loop-i : goal.invariant-loop-i
invariant-loop-i l = (k : ℕ) → k < l.i → (get_or l.guids k 0 ≢ 0) × ((j : ℕ) → j < k → get_or l.guids j 0 ≢ get_or l.guids k 0)
