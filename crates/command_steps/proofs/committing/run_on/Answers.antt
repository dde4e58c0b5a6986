use Rattle.std.proofs.Common.{◌+◌, inl, inr, arith}
use Rattle.command_steps.proofs.Stepping.{runs_one, runs_more, runs_out}
use Rattle.command_steps.proofs.committing.run_on.Goals as goal

pub loop-init : goal.loop-init
loop-init g c = runs_one g.P.PoolSteps c.args.timestamp c.args.pool.now c.args.step c.take_step-reply.result c.take_step-reply.new.self c.take_step-reply.ensures.follows c.take_step-reply.ensures.goes

pub loop-preserved : goal.loop-preserved
loop-preserved g c =
    let taken = c.take_step-reply-in-loop in
    runs_more g.P.PoolSteps c.args.timestamp g.met.P.PoolSteps.came_further g.met.P.PoolSteps.parts_tell c.args.pool.now c.args.step c.loop.reply (c.loop.counter + 1) c.loop.pool c.in-Some.step taken.result taken.new.self
    c.in-Some.ensures taken.ensures.follows taken.ensures.goes c.loop.invariant

pub returns-in_default : goal.returns-in_default
returns-in_default g c = runs_out g.P.PoolSteps c.args.timestamp c.args.pool.now c.args.step c.loop.reply (c.loop.counter + 1) c.loop.pool (inl c.in_default.ensures) c.loop.invariant

pub returns : goal.returns
returns g c = runs_out g.P.PoolSteps c.args.timestamp c.args.pool.now c.args.step c.loop.reply (c.loop.counter + 1) c.loop.pool (inr (omega arith)) c.loop.invariant
