use Rattle.std.proofs.Common.{◌*◌, ◌^◌, min}
use Rattle.commands.proofs.Leading.{PouredSoFar}
use Rattle.commands.proofs.pouring.pour_out.Given as goal

abbrev pub invariant-loop-number : goal.invariant-loop-number
invariant-loop-number g l = PouredSoFar g.P.PoolSteps l.fn.device l.device (min l.fn.size (l.number * 2 ^ 20)) (g.W.Write.contents l.fn.output) (g.W.Write.contents l.output)
