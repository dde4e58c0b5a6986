use Rattle.std.proofs.Common.{ℕ, ◌<◌}
use Rattle.vdev_label.specs.declared.refusal.Breach.{Breach}
use Rattle.pool_labels.specs.Choices.{IsBadAt}
use Rattle.pool_labels.proofs.consistency.first_bad.Given as goal

abbrev pub invariant-loop-label : goal.invariant-loop-label
invariant-loop-label l = (j : ℕ) (other : Breach) → j < l.label-index → ¬ IsBadAt l.labels j other
