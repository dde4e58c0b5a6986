use Rattle.pool_maps.proofs.Staying.{by_marks}
use Rattle.pool_maps.proofs.laws.maps_follow_marks.Goals as goal

pub returns : goal.returns
returns c = by_marks
