use Rattle.pool_create.specs.CoreStateOf.{state_of}
use Rattle.programs.proofs.Chains.{plays_run}
use Rattle.programs.proofs.disk_pool.schedules_are_runs.Goals as goal

pub returns : goal.returns
returns c last v commands text r plays = plays_run state_of c.args.first.now v commands text last r plays
