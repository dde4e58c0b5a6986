use Rattle.std.proofs.Common.{◌≡◌, vec_len, []}
use Rattle.thread_runs.specs.Dealing.{AreDealt}
use Rattle.thread_runs.proofs.dealing.empty_stacks.Given as goal

abbrev pub invariant-loop : goal.invariant-loop
invariant-loop l = record {
  count : vec_len l.stacks ≡ l.counter;
  empty : AreDealt l.stacks.items [];
}
