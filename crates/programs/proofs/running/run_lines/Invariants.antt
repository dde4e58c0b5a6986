use Rattle.programs.proofs.Faulting.{RanSoFar}
use Rattle.programs.proofs.running.run_lines.Given as goal

abbrev pub invariant-loop : goal.invariant-loop
invariant-loop g l =
    RanSoFar g.P.SchedulePool.outcomes g.P.SchedulePool.faults l.fn.pool (g.R.Read.remaining l.fn.lines.input) l.fn.lines.count (g.W.Write.contents l.fn.output)
    l.pool (g.R.Read.remaining l.lines.input) l.lines.count (g.W.Write.contents l.output)
