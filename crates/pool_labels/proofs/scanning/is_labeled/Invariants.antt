use Rattle.pool_labels.specs.Scans.{IsValidOf}
use Rattle.pool_labels.proofs.Lists.{NoneTo}
use Rattle.pool_labels.proofs.scanning.is_labeled.Given as goal

abbrev pub invariant-loop-label : goal.invariant-loop-label
invariant-loop-label l = NoneTo (IsValidOf l.which) l.labels l.label-index
