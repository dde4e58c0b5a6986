use Rattle.std.proofs.Common.{◌≡◌}
use Rattle.tests_formats.proofs.disks.commit.Given as goal

abbrev pub invariant-loop-place : goal.invariant-loop-place
invariant-loop-place l = l.disks.starts ≡ l.fn.disks.starts

abbrev pub invariant-loop-which : goal.invariant-loop-which
invariant-loop-which l = l.disks.starts ≡ l.fn.disks.starts
