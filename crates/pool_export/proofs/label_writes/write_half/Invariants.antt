use Rattle.model_disk.specs.Joint.{content}
use Rattle.pool_slots.specs.Slots.{InUse, MakesOn}
use Rattle.pool_slots.specs.Writes.{InHalf}
use Rattle.pool_export.specs.Absence.{GoOutFailing}
use Rattle.pool_export.specs.Writes.{IsUsedWrite}
use Rattle.pool_export.proofs.Halves.{StandBelow}
use Rattle.pool_export.proofs.label_writes.write_half.Given as goal

abbrev pub invariant-loop-which : goal.invariant-loop-which
invariant-loop-which g l = record {
  absent : GoOutFailing l.fn.out.items l.out.items l.fn.disks l.disks;
  makes : MakesOn (InUse l.fn.out.items) (IsUsedWrite l.fn.out.items l.fn.disks.starts l.areas (InHalf l.half)) l.fn.disks l.disks;
  stand : StandBelow l.out.items (content l.disks) l.fn.disks.starts l.areas (InHalf l.half) l.which;
}
