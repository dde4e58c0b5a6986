use Rattle.commands.proofs.Taking.{TakenSoFar}
use Rattle.commands.proofs.pouring.take_in.Given as goal

abbrev pub invariant-loop : goal.invariant-loop
invariant-loop g l = TakenSoFar g.P.PoolSteps l.fn.device l.device l.at (g.R.Read.remaining l.fn.input) (g.R.Read.remaining l.input)
