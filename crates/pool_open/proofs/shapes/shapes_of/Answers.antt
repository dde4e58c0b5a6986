use Rattle.std.proofs.Common.{arith}
use Rattle.pool_open.proofs.Lists.{allowed_at, before_all}
use Rattle.pool_open.proofs.shapes.shapes_of.Goals as goal

pub shape_of-requires-in-loop-i : goal.shape_of-requires-in-loop-i
shape_of-requires-in-loop-i c =
    record { allowed = allowed_at c.args.config.now.vdevs.items c.loop-i.i c.index-vdev.result.now (omega (arith, c.loop-i-test.true)) c.index-vdev.ensures c.requires.allowed }

pub returns : goal.returns
returns c = before_all c.args.config.now.vdevs.items c.loop-i.i c.loop-i.first c.loop-i.shapes.items (omega (arith, c.loop-i-test.false, c.loop-i.auto)) c.loop-i.invariant.0
