use Rattle.std.proofs.Common.{◌≡◌}
use Rattle.tests_threads.proofs.failing_disks.lines_of.Given as goal

abbrev pub invariant-loop-line : goal.invariant-loop-line
invariant-loop-line l = l.lines.threads ≡ l.threads
