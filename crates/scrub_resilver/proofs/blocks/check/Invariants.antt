use Rattle.std.proofs.Common.{take}
use Rattle.raidz_io.specs.Reads.{AreUntouched, OnlyReads}
use Rattle.scrub_resilver.specs.Checking.{AreChecked}
use Rattle.scrub_resilver.proofs.blocks.check.Given as goal

abbrev pub invariant-loop-block : goal.invariant-loop-block
invariant-loop-block g l = record {
  reads : OnlyReads l.fn.disks l.disks;
  untouched : AreUntouched l.missing l.fn.disks l.disks;
  so_far : AreChecked l.shapes l.fn.disks l.disks l.missing (take l.block-index l.blocks) l.found.items;
}
