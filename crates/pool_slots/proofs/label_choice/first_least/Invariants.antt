use Rattle.std.proofs.Common.{◌<◌, length}
use Rattle.pool_slots.specs.Shown.{IsFirstLeast}
use Rattle.pool_slots.proofs.label_choice.first_least.Given as goal

abbrev pub invariant-loop-number : goal.invariant-loop-number
invariant-loop-number l = record { within : l.least < length l.shown; least : IsFirstLeast l.shown l.number l.least }
