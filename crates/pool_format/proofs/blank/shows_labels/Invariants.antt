use Rattle.pool_slots.specs.Reads.{OnlyReads, nowhere}
use Rattle.pool_slots.specs.Slots.{is_disk}
use Rattle.pool_format.specs.Blank.{IsToldOf, isnt}
use Rattle.pool_format.proofs.Blanks.{ShowsBelow}
use Rattle.pool_format.proofs.blank.shows_labels.Given as goal

abbrev pub invariant-loop-number : goal.invariant-loop-number
invariant-loop-number g l = record {
  only : OnlyReads (is_disk l.which) nowhere l.fn.disks l.disks;
  none : IsToldOf (isnt (ShowsBelow l.number)) l.fn.disks l.disks l.which;
}
