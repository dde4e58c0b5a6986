use Rattle.std.proofs.Common.{take}
use Rattle.raidz_io.specs.Reads.{AreUntouched, OnlyReads}
use Rattle.scrub_resilver.specs.Copies.{AreUnread}
use Rattle.scrub_resilver.proofs.right.read_first.Given as goal

abbrev pub invariant-loop-place : goal.invariant-loop-place
invariant-loop-place g l = record {
  reads : OnlyReads l.fn.disks l.disks;
  untouched : AreUntouched l.missing l.fn.disks l.disks;
  unread : AreUnread l.shapes l.fn.disks l.disks l.missing l.block (take l.place-index l.places);
}
