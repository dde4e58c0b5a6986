use Rattle.commands.proofs.Taking.{poured_in, poured_part}
use Rattle.commands.proofs.pouring.pour_in.Goals as goal

pub returns-in-Ok-clause-done : goal.returns-in-Ok-clause-done
returns-in-Ok-clause-done g c =
    poured_in g.P.PoolSteps g.met.P.PoolSteps.parts_tell c.args.device.now c.take_in.new.device c.flush.new.self (g.R.Read.remaining c.args.input.now) c.take_in.ensures.follows c.flush.ensures.follows
    c.in_ok-take_in.ensures.taken c.in-Ok.ensures.flushed

pub returns-in-Err-clause-stopped : goal.returns-in-Err-clause-stopped
returns-in-Err-clause-stopped g c =
    poured_part g.P.PoolSteps g.met.P.PoolSteps.parts_tell c.args.device.now c.take_in.new.device c.flush.new.self (g.R.Read.remaining c.args.input.now) c.take_in.ensures.follows c.flush.ensures.follows
    c.in_ok-take_in.ensures.taken c.in-Err.ensures.refused
