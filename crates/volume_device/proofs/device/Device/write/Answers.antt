use Rattle.std.proofs.lemmas.Result.{IfErr-weaker, on_ok_weaker}
use Rattle.pool_model.specs.declared.refusal.Refusal.{Refusal}
use Rattle.volume_device.proofs.Looping.{caused_behind, none_written, then_not_settled, then_settled}
use Rattle.volume_device.proofs.device.Device.write.Goals as goal

pub returns-in-Some-clause-refused : goal.returns-in-Some-clause-refused
returns-in-Some-clause-refused g c = none_written g.P.PoolSteps c.args.self.now c.args.offset c.args.bytes.now

pub returns-clause-written : goal.returns-clause-written
returns-clause-written g c =
    let first = c.in_ok-write_pieces.ensures in
    on_ok_weaker c.settle.result (then_settled g.P.PoolSteps g.met.P.PoolSteps.parts_tell c.args.self.now c.write_pieces.new.self c.settle.new.self c.args.offset c.args.bytes.now first.follows c.settle.ensures.follows first.written) c.settle.ensures.settled

pub returns-clause-refused : goal.returns-clause-refused
returns-clause-refused g c =
    let first = c.in_ok-write_pieces.ensures in
    IfErr-weaker c.settle.result _ _
    (λ (cause : Refusal). then_not_settled g.P.PoolSteps g.met.P.PoolSteps.parts_tell c.args.self.now c.write_pieces.new.self c.settle.new.self c.args.offset c.args.bytes.now first.follows c.settle.ensures.follows first.written) c.settle.ensures.refused

pub returns-clause-caused : goal.returns-clause-caused
returns-clause-caused g c =
    let first = c.in_ok-write_pieces.ensures in
    IfErr-weaker c.settle.result _ _
    (λ (cause : Refusal). caused_behind g.P.PoolSteps g.met.P.PoolSteps.came_further c.args.self.now c.write_pieces.new.self c.settle.new.self c.args.offset c.args.bytes.now cause c.in_default.is first.goes_on first.follows) c.settle.ensures.caused
