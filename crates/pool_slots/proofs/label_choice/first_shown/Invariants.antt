use Rattle.std.proofs.Common.{ℕ, ◌<◌}
use Rattle.pool_slots.specs.Shown.{At}
use Rattle.pool_slots.specs.declared.labeled.Shown.{Shown}
use Rattle.pool_slots.proofs.label_choice.first_shown.Given as goal

abbrev pub invariant-loop-number : goal.invariant-loop-number
invariant-loop-number l = (k : ℕ) (s : Shown) → k < l.number → ¬ At l.shown k s
