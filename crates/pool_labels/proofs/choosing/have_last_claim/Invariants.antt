use Rattle.pool_labels.specs.Choices.{HasLastClaim}
use Rattle.pool_labels.proofs.Lists.{NoneTo}
use Rattle.pool_labels.proofs.choosing.have_last_claim.Given as goal

abbrev pub invariant-loop-label : goal.invariant-loop-label
invariant-loop-label l = NoneTo (λ s. HasLastClaim s.reading) l.labels l.label-index
