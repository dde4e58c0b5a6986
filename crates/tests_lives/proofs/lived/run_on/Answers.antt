use Rattle.pool_create.specs.CoreStateOf.{state_of}
use Rattle.tests_lives.proofs.Living.{runs_on}
use Rattle.tests_lives.proofs.lived.run_on.Goals as goal

pub returns : goal.returns
returns g c =
    runs_on g.D.Disk c.crash_histories_go_on.ensures (state_of c.args.pool.core) c.args.steps.items (state_of c.run.new.core) _ _ c.in-Ok.ensures.all
