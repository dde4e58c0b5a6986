use Rattle.programs.specs.OnDisks.{state_of}
use Rattle.programs.proofs.OneCore.{one_run}
use Rattle.programs.proofs.pool_on_disks.commands_are_runs.Goals as goal

pub returns : goal.returns
returns c last core v commands text runs unset r steps plays = one_run state_of c.args.first.now commands text last core v runs unset r steps plays
