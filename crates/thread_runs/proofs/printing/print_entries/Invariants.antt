use Rattle.std.proofs.Common.{take}
use Rattle.thread_runs.specs.Printing.{WritesEntries}
use Rattle.thread_runs.proofs.printing.print_entries.Given as goal

-- the entries so far are written
abbrev pub invariant-loop-entry : goal.invariant-loop-entry
invariant-loop-entry g l = WritesEntries (take l.entry-index l.entries) (g.W.Write.contents l.fn.output) (g.W.Write.contents l.output)
