use Rattle.commands.proofs.FoundRows.{NoneBefore}
use Rattle.commands.proofs.sizes.size_in.Given as goal

abbrev pub invariant-loop-i : goal.invariant-loop-i
invariant-loop-i l = NoneBefore l.fn.rows l.fn.name l.i
