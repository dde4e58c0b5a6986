use Rattle.std.proofs.Common.{Some, refl, inl, inr, arith}
use Rattle.nbd_wire.specs.declared.errors.ErrorCode.TheVariants.{Io}
use Rattle.nbd_wire.specs.declared.requests.Command.TheVariants as commands
use Rattle.volume_device.specs.Contents.{AreRead, IsSame}
use Rattle.volume_device.specs.Devices.{name_of}
use Rattle.nbd_serve.specs.Exchanges.{exchange}
use Rattle.nbd_serve.proofs.Leading.{leads_also}
use Rattle.nbd_serve.proofs.Performing.{failed}
use Rattle.nbd_serve.proofs.answering.read.Goals as goal

pub returns-then-len-head : goal.returns-then-len-head
returns-then-len-head g c = λ payload. record {
  follows = c.read.ensures.follows;
  named = c.read.ensures.name;
  bytes_are = omega (arith, c.in-Ok.bytes.ok.0, c.len.ensures, c.if-len-head.true);
  leads = c.in-Ok.ensures.read;
  fails = tt;
}

pub returns-else-len-head : goal.returns-else-len-head
returns-else-len-head g c = λ payload.
    let steps = g.P.PoolSteps in
    let old = c.args.device.now in
    let new = c.read.new.self in
    let head = c.args.head.now in
    let becomes = AreRead (name_of old) head.offset head.len c.in-Ok.bytes.items in
    failed steps (Some commands.Read) old new (exchange head payload c.plain.result) Io c.plain.ensures.error c.plain.ensures.bytes
    c.read.ensures.follows c.read.ensures.name (leads_also steps old new becomes IsSame (λ c d are. are.1) c.in-Ok.ensures.read)
    (inr (record { bytes = c.in-Ok.bytes.items; leads = c.in-Ok.ensures.read; other_length = λ same. c.if-len-head.false (omega (arith, same, c.in-Ok.bytes.ok.0, c.len.ensures)); code_is = refl }))

pub returns-in-Err : goal.returns-in-Err
returns-in-Err g c = λ payload.
    failed g.P.PoolSteps (Some commands.Read) c.args.device.now c.read.new.self (exchange c.args.head.now payload c.plain-in-Err.result) c.error_of.result c.plain-in-Err.ensures.error c.plain-in-Err.ensures.bytes
    c.read.ensures.follows c.read.ensures.name c.in-Err.ensures.refused (inl (record { cause = c.in-Err.cause; code_is = c.error_of.ensures; caused = c.in-Err.ensures.caused }))
