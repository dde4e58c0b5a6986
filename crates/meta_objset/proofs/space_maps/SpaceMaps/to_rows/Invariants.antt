use Rattle.std.proofs.Common.{◌≡◌, take}
use Rattle.meta_objset.specs.SpaceMaps.{maps_bytes}
use Rattle.meta_objset.proofs.space_maps.SpaceMaps.to_rows.Given as goal

abbrev pub invariant-loop-map : goal.invariant-loop-map
invariant-loop-map l = l.bytes.items ≡ maps_bytes (take l.map-index l.map-items)
