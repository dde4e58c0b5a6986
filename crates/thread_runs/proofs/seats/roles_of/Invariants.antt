use Rattle.std.proofs.Common.{◌≡◌, ◌+◌, vec_len}
use Rattle.thread_runs.proofs.seats.roles_of.Given as goal

abbrev pub invariant-loop-seat : goal.invariant-loop-seat
invariant-loop-seat g l = record {
  parts : l.all.steps.parts + vec_len l.seats ≡ l.fn.all.steps.parts + vec_len l.fn.seats;
  len : vec_len l.roles + vec_len l.seats ≡ vec_len l.fn.seats;
}

abbrev pub decreases-loop-seat : goal.decreases-loop-seat
decreases-loop-seat g l = vec_len l.seats
