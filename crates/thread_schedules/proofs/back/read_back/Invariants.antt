use Rattle.std.proofs.Common.{◌≡◌, List, length}
use Rattle.schedule_lines.specs.declared.command.Command.{Command}
use Rattle.thread_schedules.proofs.Backing.{BackSoFar}
use Rattle.thread_schedules.proofs.Sorting.{Sorted}
use Rattle.thread_schedules.proofs.back.read_back.Given as goal

abbrev pub invariant-loop : goal.invariant-loop
invariant-loop g l =
    (commands : List Command) × BackSoFar (g.I.Read.remaining l.fn.lines.input) l.fn.lines.count (g.I.Read.remaining l.lines.input) l.lines.count commands
    × Sorted commands (length l.behind.reads.items) × (l.behind.threads ≡ l.fn.threads)
