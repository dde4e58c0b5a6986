use Rattle.pool_slots.specs.Slots.{InUse}
use Rattle.pool_slots.proofs.BackReads.{AreWithout}
use Rattle.pool_slots.specs.Reads.{OnlyReads, nowhere}
use Rattle.pool_slots.proofs.going_back.find_rewound.Given as goal

abbrev pub invariant-loop-which : goal.invariant-loop-which
invariant-loop-which g l = record {
  only : OnlyReads (InUse l.out) nowhere l.fn.disks l.disks;
  without : AreWithout l.out l.from l.groups l.fn.disks l.disks l.which;
}
