use Rattle.std.proofs.Common.{◌≡◌}
use Rattle.tests_threads.proofs.alone.filled.Given as goal

abbrev pub invariant-loop : goal.invariant-loop
invariant-loop g l = l.all.steps.parts ≡ 1
