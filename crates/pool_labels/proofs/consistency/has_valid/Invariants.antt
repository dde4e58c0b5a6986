use Rattle.pool_labels.specs.Choices.{IsValidReading}
use Rattle.pool_labels.proofs.Lists.{NoneTo}
use Rattle.pool_labels.proofs.consistency.has_valid.Given as goal

abbrev pub invariant-loop-label : goal.invariant-loop-label
invariant-loop-label l = NoneTo (λ s. IsValidReading s.reading) l.labels l.label-index
