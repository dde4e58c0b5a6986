use Rattle.std.proofs.Common.{Some, refl}
use Rattle.nbd_wire.specs.declared.requests.Command.TheVariants as commands
use Rattle.nbd_serve.specs.Exchanges.{exchange}
use Rattle.nbd_serve.proofs.Performing.{done, failed}
use Rattle.nbd_serve.proofs.answering.flush.Goals as goal

pub returns-in-Ok : goal.returns-in-Ok
returns-in-Ok g c = λ head payload.
    done g.P.PoolSteps (Some commands.Flush) c.args.device.now c.flush.new.self (exchange head payload c.plain.result) c.plain.ensures.error c.plain.ensures.bytes refl
    c.flush.ensures.follows c.flush.ensures.name c.in-Ok.ensures.flushed

pub returns-in-Err : goal.returns-in-Err
returns-in-Err g c = λ head payload.
    failed g.P.PoolSteps (Some commands.Flush) c.args.device.now c.flush.new.self (exchange head payload c.plain-in-Err.result) c.error_of.result c.plain-in-Err.ensures.error c.plain-in-Err.ensures.bytes
    c.flush.ensures.follows c.flush.ensures.name c.in-Err.ensures.refused (record { cause = c.in-Err.cause; code_is = c.error_of.ensures; caused = c.in-Err.ensures.caused })
