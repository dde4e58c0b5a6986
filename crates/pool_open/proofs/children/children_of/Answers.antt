use Rattle.std.proofs.Common.{arith}
use Rattle.pool_open.proofs.Lists.{allowed_at}
use Rattle.pool_open.proofs.children.children_of.Goals as goal

pub add_children-requires : goal.add_children-requires
add_children-requires c =
    let is = allowed_at c.args.config.now.vdevs.items c.loop-i.i c.index.result.now (omega (arith, c.loop-i-test.true)) c.index.ensures c.requires.allowed in
    record { sectors = omega (arith, is.sectors_to) }
