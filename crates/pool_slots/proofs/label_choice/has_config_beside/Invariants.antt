use Rattle.pool_slots.specs.Shown.{has_config}
use Rattle.pool_slots.proofs.Choices.{NoneBeside}
use Rattle.pool_slots.proofs.label_choice.has_config_beside.Given as goal

abbrev pub invariant-loop-other : goal.invariant-loop-other
invariant-loop-other l = NoneBeside l.shown l.other l.number (has_config l.digest)
