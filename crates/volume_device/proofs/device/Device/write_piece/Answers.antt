use Rattle.std.proofs.Common.{true, subst}
use Rattle.std.proofs.lemmas.Result.{IfErr-weaker, on_ok_weaker}
use Rattle.pool_model.specs.declared.item.Write.{Write}
use Rattle.pool_model.specs.declared.refusal.Refusal.{Refusal}
use Rattle.volume_device.specs.Causes.{IsCaused, writing}
use Rattle.volume_device.specs.Contents.{IsSame, IsWrittenOn}
use Rattle.volume_device.specs.Devices.{Leads}
use Rattle.volume_device.proofs.Flushing.{caused_then, refused_kept, same_then}
use Rattle.volume_device.proofs.Holding.{passed_on}
use Rattle.volume_device.proofs.device.Device.write_piece.Goals as goal

pub returns-in_err-hold-clause-caused : goal.returns-in_err-hold-clause-caused
returns-in_err-hold-clause-caused g c =
    let name = c.args.self.now.name in
    passed_on c.from_residual-in_err-hold.result c.in_err-hold.field-0.0 (IsCaused g.P.PoolSteps (writing name c.args.offset c.args.piece.now) c.args.self.now c.hold.new.self) c.from_residual-in_err-hold.ensures.1
    (c.in_err-hold.ensures.caused name c.args.offset c.args.piece.now)

pub returns-clause-written : goal.returns-clause-written
returns-clause-written g c =
    let p = g.P.PoolSteps in
    let first = c.in_ok-hold.ensures in
    let old = c.args.self.now in
    let mid = c.hold.new.self in
    let new = c.take.new.self in
    let is = c.in_ok-write.ensures.write in
    on_ok_weaker c.take.result
    (λ leads. subst (λ (x : Write). Leads p old new (IsWrittenOn x.volume x.offset x.bytes)) is
    (same_then p g.met.P.PoolSteps.parts_tell old mid new (IsWrittenOn c.in_ok-write.write.volume c.in_ok-write.write.offset c.in_ok-write.write.bytes) first.follows c.take.ensures.follows first.same leads))
    c.take.ensures.written

pub returns-clause-refused : goal.returns-clause-refused
returns-clause-refused g c =
    let p = g.P.PoolSteps in
    let first = c.in_ok-hold.ensures in
    IfErr-weaker c.take.result _ _ (λ (cause : Refusal). same_then p g.met.P.PoolSteps.parts_tell c.args.self.now c.hold.new.self c.take.new.self IsSame first.follows c.take.ensures.follows first.same) c.take.ensures.refused

pub returns-clause-caused : goal.returns-clause-caused
returns-clause-caused g c =
    let p = g.P.PoolSteps in
    let first = c.in_ok-hold.ensures in
    let old = c.args.self.now in
    let mid = c.hold.new.self in
    let new = c.take.new.self in
    let is = c.in_ok-write.ensures.write in
    IfErr-weaker c.take.result _ _
    (λ (cause : Refusal). λ caused. subst (λ (x : Write). IsCaused p (writing x.volume x.offset x.bytes) old new cause) is
    (caused_then p g.met.P.PoolSteps.came_further (writing c.in_ok-write.write.volume c.in_ok-write.write.offset c.in_ok-write.write.bytes) old mid new cause first.follows (refused_kept p old mid mid.core true first.held) caused))
    c.take.ensures.caused
