use Rattle.command_steps.proofs.Whole.{commits_all}
use Rattle.command_steps.proofs.committing.commit.Goals as goal

pub returns-clause-commits : goal.returns-clause-commits
returns-clause-commits g c =
    commits_all g.P.PoolSteps c.args.timestamp g.met.P.PoolSteps.is_sound c.args.pool.now c.run_on.result c.run_on.new.pool c.run_on.ensures
