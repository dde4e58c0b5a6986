use Rattle.model_disk.specs.Runs.{no_write}
use Rattle.pool_slots.specs.Slots.{InUse, MakesOn}
use Rattle.pool_slots.proofs.Writing.{AreSettledBelow}
use Rattle.pool_export.specs.Absence.{GoOutFailing}
use Rattle.pool_export.proofs.settling.flush_all.Given as goal

abbrev pub invariant-loop-which : goal.invariant-loop-which
invariant-loop-which g l = record {
  absent : GoOutFailing l.fn.out.items l.out.items l.fn.disks l.disks;
  makes : MakesOn (InUse l.fn.out.items) no_write l.fn.disks l.disks;
  settled : AreSettledBelow l.out.items l.disks.calls l.which;
}
