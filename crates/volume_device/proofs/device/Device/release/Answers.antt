use Rattle.volume_device.proofs.Flushing.{release_stopped}
use Rattle.volume_device.proofs.device.Device.release.Goals as goal

pub returns : goal.returns
returns g c =
    let laws = g.met.P.PoolSteps in
    let taken = c.take_step-reply in
    let has = release_stopped g.P.PoolSteps laws.is_sound laws.came_from_itself c.args.self.now taken.result taken.new.self c.stop.new.self c.stop.result c.stop.ensures.stopped c.stop.ensures.caused c.requires taken.ensures.follows
    taken.ensures.goes in
    record { follows = has.follows; name = has.name; same = has.same; released = tt; caused = has.caused }
