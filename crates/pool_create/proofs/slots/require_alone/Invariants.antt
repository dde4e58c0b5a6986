use Rattle.pool_create.proofs.Alone.{AreAloneTo}
use Rattle.pool_create.proofs.slots.require_alone.Given as goal

abbrev pub invariant-loop-which : goal.invariant-loop-which
invariant-loop-which g l = AreAloneTo l.uberblock l.fn.disks l.disks l.which
