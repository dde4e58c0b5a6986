use Rattle.std.proofs.Common.{ℕ, ◌<◌}
use Rattle.pool_labels.specs.Choices.{AgreesWithFront}
use Rattle.pool_labels.proofs.consistency.all_agree.Given as goal

abbrev pub invariant-loop-i : goal.invariant-loop-i
invariant-loop-i l = (k : ℕ) → k < l.i → AgreesWithFront l.labels k
