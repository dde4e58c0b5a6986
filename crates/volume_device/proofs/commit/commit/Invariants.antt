use Rattle.volume_device.specs.Commits.{Commits}
use Rattle.volume_device.proofs.commit.commit.Given as goal

abbrev pub invariant-loop : goal.invariant-loop
invariant-loop g l = Commits g.P.PoolSteps l.fn.core l.reply l.core
