use Rattle.std.proofs.Common.{◌≡◌}
use Rattle.tests_blocks.proofs.extents.tally.Given as goal

abbrev pub invariant-loop-pair : goal.invariant-loop-pair
invariant-loop-pair l = l.disks.starts ≡ l.fn.disks.starts
