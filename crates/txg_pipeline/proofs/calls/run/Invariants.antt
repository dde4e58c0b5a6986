use Rattle.std.proofs.Common.{◌≡◌, ◌++◌, List}
use Rattle.std.specs.VecDeque.{deque_len}
use Rattle.txg_pipeline.specs.declared.calls.Call.{Call}
use Rattle.txg_pipeline.specs.Calls.{Runs}
use Rattle.txg_pipeline.proofs.calls.run.Given as goal

-- a front of the calls is taken, and what is left follows it
abbrev pub invariant-taking : goal.invariant-taking
invariant-taking l = (taken : List Call) × (taken ++ l.left.items ≡ l.fn.calls.items) × Runs l.fn.pipeline taken l.fn.answers.items l.pipeline l.answers.items

abbrev pub decreases-taking : goal.decreases-taking
decreases-taking l = deque_len l.left
