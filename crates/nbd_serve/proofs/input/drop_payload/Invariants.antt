use Rattle.nbd_serve.proofs.Consuming.{HasDropped}
use Rattle.nbd_serve.proofs.input.drop_payload.Given as goal

abbrev pub invariant-loop-left : goal.invariant-loop-left
invariant-loop-left g l = HasDropped (g.R.Read.remaining l.fn.input) (g.R.Read.remaining l.input) l.fn.len l.left

abbrev pub decreases-loop-left : goal.decreases-loop-left
decreases-loop-left g l = l.left
