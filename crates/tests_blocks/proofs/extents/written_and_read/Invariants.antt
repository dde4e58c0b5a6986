use Rattle.std.proofs.Common.{◌≡◌}
use Rattle.tests_blocks.proofs.extents.written_and_read.Given as goal

abbrev pub invariant-loop-which : goal.invariant-loop-which
invariant-loop-which l = l.disks.starts ≡ l.fn.disks.starts
