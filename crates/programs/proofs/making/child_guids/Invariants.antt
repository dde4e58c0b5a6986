use Rattle.std.proofs.Common.{◌≡◌}
use Rattle.programs.specs.Making.{child_guids as guids}
use Rattle.programs.proofs.making.child_guids.Given as goal

abbrev pub invariant-loop-child : goal.invariant-loop-child
invariant-loop-child l = l.guids.items ≡ guids l.child
