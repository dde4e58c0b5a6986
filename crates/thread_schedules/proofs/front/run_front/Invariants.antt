use Rattle.thread_schedules.proofs.Fronting.{FrontSoFar}
use Rattle.thread_schedules.proofs.front.run_front.Given as goal

abbrev pub invariant-loop : goal.invariant-loop
invariant-loop g l =
    FrontSoFar g.P.SchedulePool.creates g.P.SchedulePool.refuses g.P.SchedulePool.outcomes (g.I.Read.remaining l.fn.lines.input) (g.W.Write.contents l.fn.output)
    l.stage (g.I.Read.remaining l.lines.input) (g.W.Write.contents l.output) l.lines.count
