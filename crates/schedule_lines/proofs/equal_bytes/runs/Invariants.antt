use Rattle.std.proofs.Common.{List, ◌++◌, length}
use Rattle.schedule_lines.specs.declared.equal_bytes.Run.{Run}
use Rattle.schedule_lines.specs.Runs.{AreRuns}
use Rattle.schedule_lines.proofs.equal_bytes.runs.Given as goal

-- the runs of what is left complete those of all
abbrev pub invariant-loop-run : goal.invariant-loop-run
invariant-loop-run l = (others : List Run) → AreRuns l.rest others → AreRuns l.bytes (l.runs.items ++ others)

abbrev pub decreases-loop-run : goal.decreases-loop-run
decreases-loop-run l = length l.rest
