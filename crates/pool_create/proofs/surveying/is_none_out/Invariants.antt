use Rattle.std.proofs.Common.{◌≡◌, take}
use Rattle.pool_create.specs.Planning.{none_out}
use Rattle.pool_create.proofs.surveying.is_none_out.Given as goal

abbrev pub invariant-loop-i : goal.invariant-loop-i
invariant-loop-i l = take l.i l.out ≡ none_out l.i
