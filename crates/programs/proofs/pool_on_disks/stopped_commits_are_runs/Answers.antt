use Rattle.std.proofs.Common.{◌≡◌, Some, sym, ap, subst}
use Rattle.programs.specs.OnDisks.{Closes, state_of}
use Rattle.programs.proofs.OneCore.{stopped}
use Rattle.programs.proofs.pool_on_disks.stopped_commits_are_runs.Goals as goal

pub returns : goal.returns
returns c core v command outcome new runs r stops = (
  stopped (state_of c.args.first.now) command outcome new core v runs r stops,
  subst (λ disks. Closes (Some stops.later) (state_of c.args.first.now).disks disks) (sym (ap (λ s. s.disks) stops.same)) stops.closes,
)
