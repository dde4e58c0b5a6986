use Rattle.std.proofs.Common.{length}
use Rattle.meta_objset.specs.SpaceMaps.{FitsMap, map_bytes}
use Rattle.meta_objset.proofs.Ordered.{AreReadInOrder}
use Rattle.meta_objset.proofs.Maps.{Earlier}
use Rattle.meta_objset.proofs.space_maps.SpaceMaps.from_rows.Given as goal

abbrev pub invariant-loop-rest : goal.invariant-loop-rest
invariant-loop-rest l = AreReadInOrder map_bytes FitsMap Earlier l.bytes l.rest l.rows.items

abbrev pub decreases-loop-rest : goal.decreases-loop-rest
decreases-loop-rest l = length l.rest
