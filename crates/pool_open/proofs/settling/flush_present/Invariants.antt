use Rattle.pool_open.specs.Settling.{GoOutFlushing}
use Rattle.pool_slots.proofs.Writing.{AreSettledBelow}
use Rattle.pool_open.proofs.settling.flush_present.Given as goal

abbrev pub invariant-loop-which : goal.invariant-loop-which
invariant-loop-which g l = record {
  gone : GoOutFlushing l.fn.out.items l.out.items l.fn.disks l.disks;
  settled : AreSettledBelow l.out.items l.disks.calls l.which;
}
