use Rattle.std.proofs.Common.{◌≡◌, vec_len}
use Rattle.tests_scrub.proofs.pools.pattern.Given as goal

abbrev pub invariant-loop-place : goal.invariant-loop-place
invariant-loop-place l = vec_len l.bytes ≡ l.place
