-- The numbers that a process ends with.
use Rattle.std.specs.Prelude.{ℕ}
use Rattle.programs.specs.declared.status.ExitStatus.{ExitStatus}
use Rattle.programs.specs.declared.status.ExitStatus.TheVariants.{Done, Fault}

-- 0 where the whole schedule was run, 2 at a fault
abbrev pub status_number : ExitStatus → ℕ
status_number Done = 0
status_number (Fault cause) = 2
