use Rattle.std.proofs.Common.{◌≡◌}
use Rattle.tests_threads.proofs.in_threads.in_turn.Given as goal

abbrev pub invariant-loop-writer : goal.invariant-loop-writer
invariant-loop-writer g l = l.shares.steps.parts ≡ 1
