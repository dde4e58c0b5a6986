use Rattle.std.proofs.Common.{sym, subst}
use Rattle.commands.specs.Streams.{IsPoured}
use Rattle.commands.proofs.Wholes.{poured_by}
use Rattle.commands.proofs.streaming.printed.Goals as goal

pub returns : goal.returns
returns g c =
    let device = c.new-device.result in
    let new = c.pour_out-ended.new.device in
    let before = g.W.Write.contents c.args.output.now in
    let after = g.W.Write.contents c.pour_out-ended.new.output in
    subst (λ last. IsPoured g.S.Pool.PoolSteps c.args.pool last c.args.name before after c.pour_out-ended.result) (sym c.into_core.ensures.core)
    (poured_by g.S.Pool.PoolSteps c.args.pool c.args.name device new c.new-device.ensures.core c.new-device.ensures.name c.new-device.ensures.shows c.pour_out-ended.result c.in-Ok.size before after c.in-Ok.ensures c.pour_out-ended.ensures.done c.pour_out-ended.ensures.stopped)
