use Rattle.std.proofs.Common.{◌≡◌, length}
use Rattle.model_disk.specs.Joint.{AreHonestSince}
use Rattle.pool_slots.specs.LabelReads.{AreFromSources, HasLabeled}
use Rattle.pool_slots.proofs.LabelPlans.{AreMadeTo}
use Rattle.pool_slots.specs.Reads.{OnlyReads, nowhere}
use Rattle.pool_slots.proofs.areas.areas_of.Given as goal

abbrev pub invariant-loop-which : goal.invariant-loop-which
invariant-loop-which g l = record {
  only : OnlyReads (HasLabeled l.labels) nowhere l.fn.disks l.disks;
  count : length l.all.items ≡ l.which;
  made : AreMadeTo l.labels l.uberblock l.all.items;
  sources : AreHonestSince (length l.fn.disks.calls) l.disks.starts l.disks.calls → AreFromSources l.labels l.donor l.uberblock l.fn.disks l.all.items;
}
