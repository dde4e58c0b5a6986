use Rattle.model_disk.specs.Joint.{content}
use Rattle.pool_slots.specs.Slots.{InUse, MakesOn}
use Rattle.pool_slots.specs.Writes.{IsSlotWrite, SlotsStand, InTurn}
use Rattle.pool_slots.proofs.writes.write_turn.Given as goal

abbrev pub invariant-loop-which : goal.invariant-loop-which
invariant-loop-which g l = record {
  makes : MakesOn (InUse l.out) (IsSlotWrite l.fn.disks.starts l.uberblock (InTurn l.out l.all l.turn)) l.fn.disks l.disks;
  stand : SlotsStand (content l.disks) l.fn.disks.starts l.uberblock (InTurn l.out l.all l.turn) l.which;
}
