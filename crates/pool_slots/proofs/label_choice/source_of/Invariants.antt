use Rattle.pool_slots.proofs.Choices.{SourceOf}
use Rattle.pool_slots.proofs.label_choice.source_of.Given as goal

abbrev pub invariant-loop-number : goal.invariant-loop-number
invariant-loop-number l = SourceOf l.number l.shown l.digest l.best
