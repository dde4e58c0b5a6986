use Rattle.std.proofs.Common.{◌≡◌, ◌++◌, List}
use Rattle.std.specs.VecDeque.{deque_len}
use Rattle.pool_model.specs.declared.step.Step.{Step}
use Rattle.pool_core.specs.Runs.{RunsTo}
use Rattle.pool_core.specs.StateOf.{state_of}
use Rattle.pool_core.proofs.runs.run.Given as goal

-- a front of the steps is taken, and what is left follows it
abbrev pub invariant-taking : goal.invariant-taking
invariant-taking g l = (taken : List Step) × (taken ++ l.left.items ≡ l.fn.steps.items) × RunsTo (state_of l.fn.core) taken l.fn.replies.items (state_of l.core) l.replies.items

abbrev pub decreases-taking : goal.decreases-taking
decreases-taking g l = deque_len l.left
