use Rattle.pool_slots.specs.LabelReads.{IsGreatestIn}
use Rattle.pool_slots.proofs.areas.greatest_of.Given as goal

abbrev pub invariant-loop-which : goal.invariant-loop-which
invariant-loop-which l = IsGreatestIn l.labels l.least l.which l.greatest
