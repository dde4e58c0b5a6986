use Rattle.nbd_serve.proofs.Stepping.{SoFar}
use Rattle.nbd_serve.proofs.transmission.transmit.Given as goal

abbrev pub invariant-loop : goal.invariant-loop
invariant-loop g l =
    SoFar g.P.PoolSteps l.fn.export l.fn.device l.device (g.R.Read.remaining l.fn.input) (g.R.Read.remaining l.input) (g.W.Write.contents l.fn.output) (g.W.Write.contents l.output)
