use Rattle.pool_stops.proofs.Filled.{free_places_are_unfilled as law}
use Rattle.pool_stops.proofs.laws.free_places_are_unfilled.Goals as goal

pub returns : goal.returns
returns c = law
