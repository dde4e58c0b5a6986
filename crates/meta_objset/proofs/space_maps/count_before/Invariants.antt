use Rattle.std.proofs.Common.{ℕ, ◌<◌, get_or}
use Rattle.meta_objset.specs.declared.space_maps.MetaslabMap.{MetaslabMap}
use Rattle.meta_objset.specs.SpaceMaps.{IsEarlier}
use Rattle.meta_objset.proofs.space_maps.count_before.Given as goal

abbrev pub invariant-loop-i : goal.invariant-loop-i
invariant-loop-i l = (k : ℕ) (other : MetaslabMap) → k < l.i → IsEarlier (get_or l.maps k other).metaslab l.metaslab
