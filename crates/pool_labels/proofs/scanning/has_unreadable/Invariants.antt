use Rattle.std.proofs.Common.{◌≡◌}
use Rattle.pool_labels.specs.declared.scanned.Reading.TheVariants.{Unreadable}
use Rattle.pool_labels.proofs.Lists.{NoneTo}
use Rattle.pool_labels.proofs.scanning.has_unreadable.Given as goal

abbrev pub invariant-loop-label : goal.invariant-loop-label
invariant-loop-label l = NoneTo (λ s. s.reading ≡ Unreadable) l.labels l.label-index
