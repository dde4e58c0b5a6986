use Rattle.std.proofs.Common.{◌≡◌, ◌≤◌}
use Rattle.programs.specs.Stops.{in_use_below}
use Rattle.programs.proofs.stopping.count_in_use.Given as goal

abbrev pub invariant-loop-number : goal.invariant-loop-number
invariant-loop-number l = (l.count ≡ in_use_below l.absent l.number) × (l.count ≤ l.number)
