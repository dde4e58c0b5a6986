use Rattle.pool_slots.specs.Shown.{IsGreatestOf}
use Rattle.pool_slots.proofs.label_choice.greatest_claim.Given as goal

abbrev pub invariant-loop-number : goal.invariant-loop-number
invariant-loop-number l = IsGreatestOf l.shown l.number l.greatest
