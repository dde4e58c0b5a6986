use Rattle.std.proofs.Common.{[], ◌∷◌, take}
use Rattle.scrub_resilver.specs.Mending.{ArePlacesMended, IsColumnOfBlock, OnlyMends, Repairs}
use Rattle.scrub_resilver.proofs.mending.mend_places.Given as goal

abbrev pub invariant-loop-place : goal.invariant-loop-place
invariant-loop-place g l = record {
  mends : OnlyMends l.shapes (l.block ∷ []) l.missing l.fn.disks l.disks;
  own : Repairs (IsColumnOfBlock l.shapes l.block l.content) l.missing l.fn.disks l.disks;
  mended : ArePlacesMended l.shapes l.fn.disks l.disks l.missing l.block l.content (take l.place-index l.places);
}
