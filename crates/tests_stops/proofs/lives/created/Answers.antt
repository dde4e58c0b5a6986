use Rattle.pool_create.specs.CoreStateOf.{state_of}
use Rattle.pool_create.specs.Creating.{IsCreated}
use Rattle.tests_stops.specs.Lives.{RunsAtFirst}
use Rattle.tests_stops.proofs.Opened.{if_ok}
use Rattle.tests_stops.proofs.lives.created.Goals as goal

pub returns : goal.returns
returns c =
    if_ok c.create_over.result (λ opened. IsCreated c.args.disks c.args.pool c.args.config opened.uberblock (state_of opened.core))
    (λ opened. RunsAtFirst c.args.disks opened.uberblock (state_of opened.core))
    (λ opened is known sound.
    (_, c.created_pools_run_as.ensures c.args.disks c.args.pool c.args.config opened.uberblock (state_of opened.core) is known sound.honest sound.some sound.few))
    c.create_over.ensures.created
