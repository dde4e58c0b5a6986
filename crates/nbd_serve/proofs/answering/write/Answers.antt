use Rattle.std.proofs.Common.{Some, refl, sym, subst, ◌∙◌, ◌≡◌, inl, inr, Bool, true, false, List, ℕ}
use Rattle.nbd_wire.specs.declared.requests.Command.TheVariants as commands
use Rattle.volume_device.specs.Contents.{Contents, IsCutOff, IsFlushed, IsSame, IsWritten}
use Rattle.volume_device.specs.Devices.{Leads, core_of, name_of}
use Rattle.nbd_serve.specs.Exchanges.{IsDone, IsNotDone, exchange}
use Rattle.nbd_serve.specs.Verdicts.{is_forced}
use Rattle.nbd_serve.proofs.Leading.{leads_also, leads_on}
use Rattle.nbd_serve.proofs.Performing.{done, failed}
use Rattle.nbd_serve.proofs.answering.write.Goals as goal

pub returns-in-Err : goal.returns-in-Err
returns-in-Err g c =
    let steps = g.P.PoolSteps in
    let old = c.args.device.now in
    let new = c.write.new.self in
    let head = c.args.head.now in
    let bytes = c.args.payload.now in
    failed steps (Some commands.Write) old new (exchange head bytes c.plain.result) c.error_of_write.result c.plain.ensures.error c.plain.ensures.bytes
    c.write.ensures.follows c.write.ensures.name
    (leads_also steps old new (IsCutOff (name_of old) head.offset bytes) (IsNotDone (is_forced head) (name_of old) head.offset bytes) (λ c d cut. inr (inl cut)) c.in-Err.ensures.refused)
    (inl (record { cause = c.in-Err.cause; code_is = c.error_of_write.ensures; caused = c.in-Err.ensures.caused }))

pub returns-then-not-is_forced : goal.returns-then-not-is_forced
returns-then-not-is_forced g c =
    let steps = g.P.PoolSteps in
    let old = c.args.device.now in
    let new = c.write.new.self in
    let head = c.args.head.now in
    let bytes = c.args.payload.now in
    let forced : is_forced head ≡ false = sym c.is_forced.ensures ∙ c.if-not-is_forced.true in
    done steps (Some commands.Write) old new (exchange head bytes c.plain-then-not-is_forced.result) c.plain-then-not-is_forced.ensures.error c.plain-then-not-is_forced.ensures.bytes refl
    c.write.ensures.follows c.write.ensures.name
    (subst (λ (b : Bool). Leads steps old new (IsDone b (name_of old) head.offset bytes)) (sym forced) c.in_default.ensures.written)

pub returns-in-Ok : goal.returns-in-Ok
returns-in-Ok g c =
    let steps = g.P.PoolSteps in
    let laws = g.met.P.PoolSteps in
    let old = c.args.device.now in
    let mid = c.write.new.self in
    let new = c.flush.new.self in
    let head = c.args.head.now in
    let bytes = c.args.payload.now in
    let forced : is_forced head ≡ true = sym c.is_forced.ensures ∙ c.if-not-is_forced.false in
    done steps (Some commands.Write) old new (exchange head bytes c.plain-in-Ok.result) c.plain-in-Ok.ensures.error c.plain-in-Ok.ensures.bytes refl
    (laws.came_further (core_of old) (core_of mid) (core_of new) c.write.ensures.follows c.flush.ensures.follows) (c.flush.ensures.name ∙ c.write.ensures.name)
    (subst (λ (b : Bool). Leads steps old new (IsDone b (name_of old) head.offset bytes)) (sym forced)
    (leads_on steps laws.parts_tell old mid new (IsWritten (name_of old) head.offset bytes) IsFlushed c.write.ensures.follows c.flush.ensures.follows c.in_default.ensures.written c.in-Ok.ensures.flushed))

pub returns-in-Err-flush : goal.returns-in-Err-flush
returns-in-Err-flush g c =
    let steps = g.P.PoolSteps in
    let laws = g.met.P.PoolSteps in
    let old = c.args.device.now in
    let mid = c.write.new.self in
    let new = c.flush.new.self in
    let head = c.args.head.now in
    let bytes = c.args.payload.now in
    let forced : is_forced head ≡ true = sym c.is_forced.ensures ∙ c.if-not-is_forced.false in
    let here : List ℕ = name_of old in
    let written = leads_on steps laws.parts_tell old mid new (IsWritten here head.offset bytes) IsSame c.write.ensures.follows c.flush.ensures.follows c.in_default.ensures.written c.in-Err-flush.ensures.refused in
    failed steps (Some commands.Write) old new (exchange head bytes c.plain-in-Err-flush.result) c.error_of.result c.plain-in-Err-flush.ensures.error c.plain-in-Err-flush.ensures.bytes
    (laws.came_further (core_of old) (core_of mid) (core_of new) c.write.ensures.follows c.flush.ensures.follows) (c.flush.ensures.name ∙ c.write.ensures.name)
    (leads_also steps old new (λ c d. (m : Contents) × IsWritten here head.offset bytes c m × IsSame m d) (IsNotDone (is_forced head) here head.offset bytes)
    (λ c d w. inr (inr (forced, subst (IsWritten here head.offset bytes c) (sym w.2) w.1))) written)
    (inr (record { forced = forced; between = mid; follows = c.write.ensures.follows; written = c.in_default.ensures.written; refused = record { cause = c.in-Err-flush.cause; code_is = c.error_of.ensures; caused = c.in-Err-flush.ensures.caused } }))
