use Rattle.std.proofs.Common.{sym, subst}
use Rattle.volume_device.specs.Devices.{Has}
use Rattle.commands.specs.Streams.{IsFilledFrom}
use Rattle.commands.proofs.Wholes.{filled_by}
use Rattle.commands.proofs.streaming.filled.Goals as goal

pub returns : goal.returns
returns g c =
    let device = c.new-device.result in
    let new = c.pour_in-ended.new.device in
    let input = g.R.Read.remaining c.args.input.now in
    subst (λ last. IsFilledFrom g.S.Pool.PoolSteps c.args.pool last c.args.name input c.pour_in-ended.result) (sym c.into_core.ensures.core)
    (filled_by g.S.Pool.PoolSteps c.args.pool c.args.name device new c.new-device.ensures.core c.new-device.ensures.name c.new-device.ensures.shows (λ d shown. subst (λ last. Has g.S.Pool.PoolSteps last d) c.into_core.ensures.core (c.into_core.ensures.has d shown)) c.pour_in-ended.result input c.pour_in-ended.ensures.done c.pour_in-ended.ensures.stopped)
