use Rattle.commands.proofs.Consuming.{SoFar}
use Rattle.commands.proofs.input.read_all.Given as goal

abbrev pub invariant-loop : goal.invariant-loop
invariant-loop g l = SoFar (g.R.Read.remaining l.fn.input) (g.R.Read.remaining l.input) l.front.items l.len
