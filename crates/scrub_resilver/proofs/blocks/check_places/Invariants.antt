use Rattle.std.proofs.Common.{◌≡◌, ◌++◌, List, take}
use Rattle.raidz_io.specs.Reads.{AreUntouched, OnlyReads}
use Rattle.scrub_resilver.specs.Checking.{ArePlacesChecked}
use Rattle.scrub_resilver.specs.declared.fault.Finding.{Finding}
use Rattle.scrub_resilver.proofs.blocks.check_places.Given as goal

abbrev pub invariant-loop-place : goal.invariant-loop-place
invariant-loop-place g l = record {
  reads : OnlyReads l.fn.disks l.disks;
  untouched : AreUntouched l.missing l.fn.disks l.disks;
  so_far : (more : List Finding) × (l.found.items ≡ l.fn.found.items ++ more)
      × ArePlacesChecked l.shapes l.fn.disks l.disks l.missing l.right.sectors l.right.is_known l.right.bytes.items (take l.place-index l.places) more;
}
