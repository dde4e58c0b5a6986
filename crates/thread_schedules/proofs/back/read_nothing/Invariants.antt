use Rattle.std.proofs.Common.{[]}
use Rattle.thread_schedules.proofs.Backing.{BackSoFar}
use Rattle.thread_schedules.proofs.back.read_nothing.Given as goal

abbrev pub invariant-loop : goal.invariant-loop
invariant-loop g l = BackSoFar (g.I.Read.remaining l.fn.rest.input) l.fn.rest.count (g.I.Read.remaining l.rest.input) l.rest.count []
