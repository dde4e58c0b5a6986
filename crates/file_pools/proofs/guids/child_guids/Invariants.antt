use Rattle.std.proofs.Common.{◌≡◌}
use Rattle.file_pools.specs.Guids.{child_guids}
use Rattle.file_pools.proofs.guids.child_guids.Given as goal

abbrev pub invariant-loop-child : goal.invariant-loop-child
invariant-loop-child l = l.guids.items ≡ child_guids l.fn.seed l.child
