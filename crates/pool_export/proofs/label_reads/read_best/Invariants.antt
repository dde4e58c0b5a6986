use Rattle.pool_slots.specs.Reads.{OnlyReads, nowhere}
use Rattle.pool_slots.specs.Slots.{is_disk}
use Rattle.pool_export.specs.Absence.{AnswersOn}
use Rattle.pool_export.proofs.Best.{IsBestTo}
use Rattle.pool_export.proofs.label_reads.read_best.Given as goal

abbrev pub invariant-loop-number : goal.invariant-loop-number
invariant-loop-number g l = record {
  only : OnlyReads (is_disk l.which) nowhere l.fn.disks l.disks;
  answers : AnswersOn l.fn.disks l.disks l.which;
  best : IsBestTo l.digest l.fn.disks l.disks l.which l.number l.best;
}
