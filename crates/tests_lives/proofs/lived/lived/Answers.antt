use Rattle.pool_create.specs.CoreStateOf.{state_of}
use Rattle.tests_lives.proofs.Living.{has_lived}
use Rattle.tests_lives.proofs.lived.lived.Goals as goal

pub returns : goal.returns
returns g c =
    has_lived g.D.Disk c.crash_histories_go_on.ensures c.crash_histories_keep_the_last_group.ensures c.args.disks.items c.args.pool c.args.config c.args.steps.items c.in-Ok.made.uberblock
    (state_of c.in-Ok.made.core) (state_of c.run.new.core) _ _ c.in-Ok.ensures.created c.in-Ok-run.ensures.all
