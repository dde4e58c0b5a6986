use Rattle.std.proofs.Common.{◌≡◌, vec_len}
use Rattle.thread_runs.specs.Dealing.{AreDealing}
use Rattle.thread_runs.proofs.dealing.dealt.Given as goal

abbrev pub invariant-loop-line : goal.invariant-loop-line
invariant-loop-line l = record {
  count : vec_len l.stacks ≡ l.threads;
  dealing : AreDealing l.stacks.items l.lines.items l.fn.lines.items;
}

abbrev pub decreases-loop-line : goal.decreases-loop-line
decreases-loop-line l = vec_len l.lines
