use Rattle.std.proofs.Common.{◌≡◌, ◌+◌, ◌<◌, vec_len}
use Rattle.thread_runs.proofs.seats.seats_of.Given as goal

abbrev pub invariant-loop-role : goal.invariant-loop-role
invariant-loop-role g l = record {
  enough : vec_len l.roles < l.all.steps.parts;
  parts : l.all.steps.parts + vec_len l.fn.roles ≡ l.fn.all.steps.parts + vec_len l.roles;
  len : vec_len l.seats + vec_len l.roles ≡ vec_len l.fn.roles;
}

abbrev pub decreases-loop-role : goal.decreases-loop-role
decreases-loop-role g l = vec_len l.roles
