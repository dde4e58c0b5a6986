use Rattle.nbd_serve.specs.Haggling.{Deals}
use Rattle.nbd_serve.proofs.haggling.deal_all.Given as goal

abbrev pub invariant-loop : goal.invariant-loop
invariant-loop g l =
    Deals l.fn.export l.fn.no_zeroes (g.R.Read.remaining l.fn.input) (g.R.Read.remaining l.input) (g.W.Write.contents l.fn.output) (g.W.Write.contents l.output)
