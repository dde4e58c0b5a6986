use Rattle.std.proofs.Common.{◌∙◌}
use Rattle.volume_device.specs.Contents.{IsFlushed, IsSame}
use Rattle.volume_device.specs.Devices.{core_of, name_of}
use Rattle.nbd_serve.specs.Exchanges.{Exchanged}
use Rattle.nbd_serve.proofs.Leading.{leads_on}
use Rattle.nbd_serve.proofs.Sessions.{leading, flushed_at_end}
use Rattle.nbd_serve.proofs.serving.serve.Goals as goal

pub returns-in-Err-clause-follows : goal.returns-in-Err-clause-follows
returns-in-Err-clause-follows g c =
    let laws = g.met.P.PoolSteps in
    let led = leading g.P.PoolSteps laws.came_from_itself laws.came_further laws.parts_tell c.args.export.now c.args.device.now c.talk-ended.new.device c.talk-ended.ensures.0 c.talk-ended.ensures.1 in
    laws.came_further (core_of c.args.device.now) (core_of c.talk-ended.new.device) (core_of c.flush.new.self) led.follows c.flush.ensures.follows

pub returns-in-Err-clause-name : goal.returns-in-Err-clause-name
returns-in-Err-clause-name g c =
    let laws = g.met.P.PoolSteps in
    let led = leading g.P.PoolSteps laws.came_from_itself laws.came_further laws.parts_tell c.args.export.now c.args.device.now c.talk-ended.new.device c.talk-ended.ensures.0 c.talk-ended.ensures.1 in
    c.flush.ensures.name ∙ led.named

pub returns-in-Err-clause-ends : goal.returns-in-Err-clause-ends
returns-in-Err-clause-ends g c =
    let laws = g.met.P.PoolSteps in
    let talk = c.talk-ended.ensures in
    let led = leading g.P.PoolSteps laws.came_from_itself laws.came_further laws.parts_tell c.args.export.now c.args.device.now c.talk-ended.new.device talk.0 talk.1 in record {
      exchanges = talk.0;
      before = c.talk-ended.new.device;
      serves = talk.1;
      ended = c.talk-ended.result;
      says = talk.2;
      caused = c.in-Err.ensures.caused;
      leads =
          leads_on g.P.PoolSteps laws.parts_tell c.args.device.now c.talk-ended.new.device c.flush.new.self (Exchanged (name_of c.args.device.now) talk.0) IsSame led.follows c.flush.ensures.follows led.leads
          c.in-Err.ensures.refused;
    }

pub returns-clause-follows : goal.returns-clause-follows
returns-clause-follows g c =
    let laws = g.met.P.PoolSteps in
    let led = leading g.P.PoolSteps laws.came_from_itself laws.came_further laws.parts_tell c.args.export.now c.args.device.now c.talk-ended.new.device c.talk-ended.ensures.0 c.talk-ended.ensures.1 in
    laws.came_further (core_of c.args.device.now) (core_of c.talk-ended.new.device) (core_of c.flush.new.self) led.follows c.flush.ensures.follows

pub returns-clause-name : goal.returns-clause-name
returns-clause-name g c =
    let laws = g.met.P.PoolSteps in
    let led = leading g.P.PoolSteps laws.came_from_itself laws.came_further laws.parts_tell c.args.export.now c.args.device.now c.talk-ended.new.device c.talk-ended.ensures.0 c.talk-ended.ensures.1 in
    c.flush.ensures.name ∙ led.named

pub returns-clause-ends : goal.returns-clause-ends
returns-clause-ends g c =
    let laws = g.met.P.PoolSteps in
    let talk = c.talk-ended.ensures in
    let led = leading g.P.PoolSteps laws.came_from_itself laws.came_further laws.parts_tell c.args.export.now c.args.device.now c.talk-ended.new.device talk.0 talk.1 in
    flushed_at_end g.P.PoolSteps c.args.export.now c.args.device.now c.flush.new.self (g.R.Read.remaining c.args.input.now) (g.R.Read.remaining c.talk-ended.new.input) (g.W.Write.contents c.args.output.now) (g.W.Write.contents c.talk-ended.new.output)
    talk.0 c.talk-ended.new.device talk.1 c.talk-ended.result talk.2
    (leads_on g.P.PoolSteps laws.parts_tell c.args.device.now c.talk-ended.new.device c.flush.new.self (Exchanged (name_of c.args.device.now) talk.0) IsFlushed led.follows c.flush.ensures.follows led.leads c.in_default.ensures.flushed)
