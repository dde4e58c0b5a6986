use Rattle.std.proofs.Common.{◌≡◌, ◌+◌, ◌++◌, List, ℕ, arith, subst, sym}
use Rattle.volume_device.specs.Causes.{IsCaused, reading}
use Rattle.volume_device.specs.Contents.{AreRead, IsSame}
use Rattle.volume_device.specs.Devices.{Leads}
use Rattle.volume_device.proofs.Holding.{passed_on}
use Rattle.volume_device.proofs.Reading.{HasRead, caused_at, first_caused, more, stays, then_stays, with_more}
use Rattle.volume_device.proofs.device.Device.read.Goals as goal

pub returns-in_err-first-clause-caused : goal.returns-in_err-first-clause-caused
returns-in_err-first-clause-caused g c =
    let p = g.P.PoolSteps in
    let old = c.args.self.now in
    let new = c.read_piece.new.self in
    let cause = c.in_err-first.field-0.0 in
    passed_on c.from_residual.result cause (IsCaused p (reading old.name c.args.offset c.args.len) old new) c.from_residual.ensures.1
    (first_caused p old new c.args.offset c.args.len c.min-done.result cause (omega (arith, c.min-done.ensures)) c.in_err-first.ensures.caused)

pub returns-in_err-piece-clause-refused : goal.returns-in_err-piece-clause-refused
returns-in_err-piece-clause-refused g c =
    let p = g.P.PoolSteps in
    let old = c.args.self.now in
    let new = c.read_piece-in-loop-done.new.self in
    let call = c.in_err-piece.ensures in
    passed_on c.from_residual-in_err-piece.result c.in_err-piece.field-0.0 (λ cause. Leads p old new IsSame) c.from_residual-in_err-piece.ensures.1
    (then_stays p g.met.P.PoolSteps.parts_tell old c.args.offset c.args.len c.loop-done.done c.loop-done.bytes.items c.loop-done.self new c.loop-done.invariant call.follows call.refused)

pub returns-in_err-piece-clause-caused : goal.returns-in_err-piece-clause-caused
returns-in_err-piece-clause-caused g c =
    let p = g.P.PoolSteps in
    let old = c.args.self.now in
    let new = c.read_piece-in-loop-done.new.self in
    let cause = c.in_err-piece.field-0.0 in
    passed_on c.from_residual-in_err-piece.result cause (IsCaused p (reading old.name c.args.offset c.args.len) old new) c.from_residual-in_err-piece.ensures.1
    (caused_at p g.met.P.PoolSteps.came_further old c.args.offset c.args.len c.loop-done.done c.loop-done.bytes.items c.loop-done.self new c.in-Some.at c.min-more.result cause c.loop-done.invariant (omega (arith, c.in-Some.ensures))
    (omega (arith, c.min-more.ensures)) c.in_err-piece.ensures.caused)

pub loop-done-init : goal.loop-done-init
loop-done-init g c =
    let p = g.P.PoolSteps in
    let old = c.args.self.now in
    let new = c.read_piece.new.self in
    let call = c.in_ok-first.ensures in
    let done = c.min-done.result in
    subst (λ (xs : List ℕ). HasRead p old c.args.offset c.args.len done xs new) (sym c.in_ok-bytes.ensures.same)
    (record { follows = call.follows; kept = call.kept; within = omega (arith, c.min-done.ensures); leads = call.read })

pub loop-done-preserved : goal.loop-done-preserved
loop-done-preserved g c =
    let p = g.P.PoolSteps in
    let laws = g.met.P.PoolSteps in
    let call = c.in_ok-piece.ensures in
    with_more p laws.came_further laws.parts_tell c.args.self.now c.loop-done.self c.read_piece-in-loop-done.new.self c.args.offset c.args.len c.loop-done.done c.min-more.result c.in-Some.at c.loop-done.bytes.items c.in_ok-piece.piece
    c.as_slice.result.now c.append.new.bytes.items c.loop-done.invariant (omega (arith, c.in-Some.ensures)) (omega (arith, c.min-more.ensures)) call.follows call.kept call.read c.as_slice.ensures c.in_ok-append.ensures.appended

pub loop-done-preserved-in_ok-append : goal.loop-done-preserved-in_ok-append
loop-done-preserved-in_ok-append g c =
    let p = g.P.PoolSteps in
    let laws = g.met.P.PoolSteps in
    let call = c.in_ok-piece.ensures in
    with_more p laws.came_further laws.parts_tell c.args.self.now c.loop-done.self c.read_piece-in-loop-done.new.self c.args.offset c.args.len c.loop-done.done c.min-more.result c.in-Some.at c.loop-done.bytes.items c.in_ok-piece.piece
    c.as_slice.result.now c.append.new.bytes.items c.loop-done.invariant (omega (arith, c.in-Some.ensures)) (omega (arith, c.min-more.ensures)) call.follows call.kept call.read c.as_slice.ensures c.in_ok-append.ensures.appended

pub returns-clause-read : goal.returns-clause-read
returns-clause-read g c =
    let p = g.P.PoolSteps in
    let old = c.args.self.now in
    let whole : c.loop-done.done ≡ c.args.len = (let w = c.loop-done.invariant.within in omega (arith, c.loop-done-test.false)) in
    subst (λ (n : ℕ). Leads p old c.loop-done.self (AreRead old.name c.args.offset n c.loop-done.bytes.items)) whole c.loop-done.invariant.leads

pub returns-in_err-append-clause-refused : goal.returns-in_err-append-clause-refused
returns-in_err-append-clause-refused g c =
    let p = g.P.PoolSteps in
    let laws = g.met.P.PoolSteps in
    let old = c.args.self.now in
    let new = c.read_piece-in-loop-done.new.self in
    let call = c.in_ok-piece.ensures in
    let bytes = c.loop-done.bytes.items in
    let piece = c.in_ok-piece.piece in
    passed_on c.from_residual-in_err-append.result c.in_err-append.field-0.0 (λ cause. Leads p old new IsSame) c.from_residual-in_err-append.ensures.1
    (stays p old c.args.offset c.args.len (c.loop-done.done + c.min-more.result) (bytes ++ piece) new
    (more p laws.came_further laws.parts_tell old c.loop-done.self new c.args.offset c.args.len c.loop-done.done c.min-more.result c.in-Some.at bytes piece c.loop-done.invariant (omega (arith, c.in-Some.ensures)) (omega (arith, c.min-more.ensures))
    call.follows call.kept call.read))
