use Rattle.std.proofs.Common.{◌≤◌, ◌+◌, length, take, drop, ap, arith}
use Rattle.std.specs.Prelude.{slice_range}
use Rattle.volume_device.specs.Causes.{IsCaused, writing}
use Rattle.volume_device.specs.Contents.{IsCutOff}
use Rattle.volume_device.specs.Devices.{Leads}
use Rattle.volume_device.proofs.Holding.{passed_on}
use Rattle.volume_device.proofs.Looping.{begins, caused_at, cut_off, ends, more, then_cut_off}
use Rattle.volume_device.proofs.device.Device.write_pieces.Goals as goal

pub loop-done-init : goal.loop-done-init
loop-done-init g c = begins g.P.PoolSteps g.met.P.PoolSteps.came_from_itself c.args.self.now c.args.offset c.args.bytes.now c.requires

pub returns-in_default-clause-refused : goal.returns-in_default-clause-refused
returns-in_default-clause-refused g c = cut_off g.P.PoolSteps c.args.self.now c.args.offset c.args.bytes.now c.loop-done.done c.loop-done.self c.loop-done.invariant

pub returns-in_err-write_piece-clause-refused : goal.returns-in_err-write_piece-clause-refused
returns-in_err-write_piece-clause-refused g c =
    let p = g.P.PoolSteps in
    let old = c.args.self.now in
    let new = c.write_piece.new.self in
    passed_on c.from_residual.result c.in_err-write_piece.field-0.0 (λ cause. Leads p old new (IsCutOff old.name c.args.offset c.args.bytes.now)) c.from_residual.ensures.1
    (then_cut_off p g.met.P.PoolSteps.parts_tell old c.args.offset c.args.bytes.now c.loop-done.done c.loop-done.self new c.loop-done.invariant c.in_err-write_piece.ensures.follows c.in_err-write_piece.ensures.refused)

pub returns-in_err-write_piece-clause-caused : goal.returns-in_err-write_piece-clause-caused
returns-in_err-write_piece-clause-caused g c =
    let p = g.P.PoolSteps in
    let old = c.args.self.now in
    let new = c.write_piece.new.self in
    let bytes = c.args.bytes.now in
    let done = c.loop-done.done in
    let len = c.min-len.result in
    let within : done + len ≤ length bytes = omega (arith, c.min-len.ensures) in
    passed_on c.from_residual.result c.in_err-write_piece.field-0.0 (IsCaused p (writing old.name c.args.offset bytes) old new) c.from_residual.ensures.1
    (caused_at p g.met.P.PoolSteps.came_further old c.args.offset bytes done c.loop-done.self new len c.in-Some.at (slice_range bytes done (done + len)) c.in_err-write_piece.field-0.0 c.requires c.loop-done.invariant (omega (arith, c.in-Some.ensures))
    (ap (λ n. take n (drop done bytes)) (omega arith)) within c.in_err-write_piece.ensures.caused)

pub loop-done-preserved : goal.loop-done-preserved
loop-done-preserved g c =
    let p = g.P.PoolSteps in
    let old = c.args.self.now in
    let new = c.write_piece.new.self in
    let bytes = c.args.bytes.now in
    let done = c.loop-done.done in
    let len = c.min-len.result in
    let within : done + len ≤ length bytes = omega (arith, c.min-len.ensures) in
    let laws = g.met.P.PoolSteps in
    let one = c.parts_are_one.ensures in
    let call = c.in_ok-write_piece.ensures in
    more p laws.came_further laws.parts_tell one.fits one.now old c.loop-done.self new c.args.offset bytes done len c.in-Some.at (slice_range bytes done (done + len)) c.loop-done.invariant (omega (arith, c.in-Some.ensures))
    (ap (λ n. take n (drop done bytes)) (omega arith)) within call.follows call.name call.goes_on call.written

pub returns-clause-written : goal.returns-clause-written
returns-clause-written g c = ends g.P.PoolSteps c.args.self.now c.args.offset c.args.bytes.now c.loop-done.done c.loop-done.self c.loop-done-test.false c.loop-done.invariant
