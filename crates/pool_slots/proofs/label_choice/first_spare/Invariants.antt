use Rattle.pool_slots.specs.Shown.{IsSpare}
use Rattle.pool_slots.proofs.Choices.{NoneUpTo}
use Rattle.pool_slots.proofs.label_choice.first_spare.Given as goal

abbrev pub invariant-loop-number : goal.invariant-loop-number
invariant-loop-number l = NoneUpTo l.number (IsSpare l.shown l.claim)
