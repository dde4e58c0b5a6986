use Rattle.volume_device.proofs.Committing.{begins, goes_on}
use Rattle.volume_device.proofs.commit.commit.Goals as goal

pub loop-init : goal.loop-init
loop-init g c =
    let taken = c.take_step-reply in
    begins g.P.PoolSteps g.met.P.PoolSteps.came_from_itself c.args.core.now taken.result taken.new.self taken.ensures.follows taken.ensures.goes

pub loop-preserved : goal.loop-preserved
loop-preserved g c =
    let taken = c.take_step-reply-in-loop in
    let laws = g.met.P.PoolSteps in
    goes_on g.P.PoolSteps laws.came_further laws.parts_tell c.args.timestamp c.args.core.now c.loop.reply c.loop.core c.in-Some.step taken.result taken.new.self c.in-Some.ensures c.loop.invariant
    taken.ensures.follows taken.ensures.goes
