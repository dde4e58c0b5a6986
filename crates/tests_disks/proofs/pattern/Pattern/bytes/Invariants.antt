use Rattle.std.proofs.Common.{◌≡◌, vec_len}
use Rattle.tests_disks.proofs.pattern.Pattern.bytes.Given as goal

abbrev pub invariant-loop-place : goal.invariant-loop-place
invariant-loop-place l = vec_len l.bytes ≡ l.place
