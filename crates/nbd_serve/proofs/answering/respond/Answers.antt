use Rattle.std.proofs.Common.{Some, sym, ap, ◌∙◌, ◌≡◌, inl, refl}
use Rattle.nbd_wire.specs.Requests.{command_of}
use Rattle.nbd_wire.specs.declared.errors.ErrorCode.TheVariants.{NoMemory}
use Rattle.nbd_wire.specs.declared.requests.Command.TheVariants as commands
use Rattle.pool_model.specs.declared.refusal.Refusal.TheVariants as cause
use Rattle.volume_device.specs.Contents.{IsSame}
use Rattle.volume_device.specs.Devices.{core_of, name_of}
use Rattle.nbd_serve.specs.Exchanges.{IsNotDone, exchange}
use Rattle.nbd_serve.specs.Verdicts.{is_forced}
use Rattle.nbd_serve.proofs.Leading.{leads_nowhere, leads_also}
use Rattle.nbd_serve.proofs.Performing.{asked_for, failed}
use Rattle.nbd_serve.proofs.answering.respond.Goals as goal

pub returns-in-Some-Read : goal.returns-in-Some-Read
returns-in-Some-Read g c = λ bytes given.
    let e = exchange c.args.head.now bytes c.read.result in
    let command : command_of c.args.head.now.kind ≡ Some commands.Read = sym c.of.ensures ∙ c.in-Some-Read.is ∙ ap Some c.in-Some-Read.field-0-is in
    asked_for g.P.PoolSteps c.args.export.now c.args.device.now c.read.new.device e (Some commands.Read) (sym c.judge.ensures ∙ c.in_default.is) command (c.read.ensures bytes)

pub returns-in-Some-Flush : goal.returns-in-Some-Flush
returns-in-Some-Flush g c = λ bytes given.
    let e = exchange c.args.head.now bytes c.flush.result in
    let command : command_of c.args.head.now.kind ≡ Some commands.Flush = sym c.of.ensures ∙ c.in-Some-Flush.is ∙ ap Some c.in-Some-Flush.field-0-is in
    asked_for g.P.PoolSteps c.args.export.now c.args.device.now c.flush.new.device e (Some commands.Flush) (sym c.judge.ensures ∙ c.in_default.is) command (c.flush.ensures c.args.head.now bytes)

pub returns-in-None : goal.returns-in-None
returns-in-None g c = λ bytes given.
    let steps = g.P.PoolSteps in
    let device = c.args.device.now in
    let head = c.args.head.now in
    let e = exchange head bytes c.plain-in-None.result in
    let command : command_of head.kind ≡ Some commands.Write = sym c.of.ensures ∙ c.in-Some-Write.is ∙ ap Some c.in-Some-Write.field-0-is in
    asked_for steps c.args.export.now device device e (Some commands.Write) (sym c.judge.ensures ∙ c.in_default.is) command
    (failed steps (Some commands.Write) device device e NoMemory c.plain-in-None.ensures.error c.plain-in-None.ensures.bytes
    (g.met.P.PoolSteps.came_from_itself (core_of device)) refl
    (leads_also steps device device IsSame (IsNotDone (is_forced head) (name_of device) head.offset bytes) (λ c d same. inl same) (leads_nowhere steps device))
    (inl (record { cause = cause.NoMemory; code_is = refl; caused = inl refl })))
