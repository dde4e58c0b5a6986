use Rattle.model_disk.specs.Runs.{no_write}
use Rattle.scrub_resilver.specs.Mending.{AreFlushedBelow, Repairs}
use Rattle.scrub_resilver.proofs.mending.flush_each.Given as goal

abbrev pub invariant-loop-disk : goal.invariant-loop-disk
invariant-loop-disk g l = record {
  mends : Repairs no_write l.missing l.fn.disks l.disks;
  flushed : AreFlushedBelow l.fn.disks l.disks l.missing l.failed.items l.disk;
}
