use Rattle.pool_format.proofs.Blanks.{AreBlankTo}
use Rattle.pool_format.proofs.blank.are_blank.Given as goal

abbrev pub invariant-loop-which : goal.invariant-loop-which
invariant-loop-which g l = AreBlankTo l.fn.disks l.disks l.which
