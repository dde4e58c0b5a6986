use Rattle.std.proofs.Common.{◌+◌}
use Rattle.command_steps.proofs.Stepping.{RunsUpTo}
use Rattle.command_steps.proofs.committing.run_on.Given as goal

abbrev pub invariant-loop : goal.invariant-loop
invariant-loop g l = RunsUpTo g.P.PoolSteps l.fn.timestamp l.fn.pool l.fn.step l.reply (l.counter + 1) l.pool
