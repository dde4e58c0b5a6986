-- How a command ends.
use Rattle.std.specs.Prelude.{ℕ, Result, Ok, Err}
use Rattle.commands.specs.declared.status.ExitStatus.{ExitStatus}
use Rattle.commands.specs.declared.status.ExitStatus.TheVariants as status
use Rattle.commands.specs.declared.stop.Stop.{Stop}
use Rattle.commands.specs.declared.stop.Stop.TheVariants as stop

-- the exit statuses of zpool(8) and zfs(8)
abbrev pub number_of : ExitStatus → ℕ
number_of status.Done = 0
number_of status.Refused = 1
number_of status.Fault = 2

-- how a command ends that was stopped: refused, or at a fault
abbrev pub status_of : {R : Type 0} → Stop R → ExitStatus
status_of (stop.Pools cause) = status.Refused
status_of (stop.Pool cause) = status.Refused
status_of stop.DiskLost = status.Refused
status_of stop.Input = status.Fault
status_of stop.Protocol = status.Fault
status_of stop.Output = status.Fault
status_of stop.NotThere = status.Fault

-- how a command ends: done, or as it was stopped
abbrev pub status_by : {R : Type 0} → Result (Unit {0}) (Stop R) → ExitStatus
status_by (Ok done) = status.Done
status_by (Err stop) = status_of stop
