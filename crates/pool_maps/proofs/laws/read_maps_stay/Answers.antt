use Rattle.pool_maps.proofs.ReadSets.{read_stay, sets_stay}
use Rattle.pool_maps.proofs.laws.read_maps_stay.Goals as goal

pub returns-clause-read : goal.returns-clause-read
returns-clause-read c = read_stay

pub returns-clause-sets : goal.returns-clause-sets
returns-clause-sets c = sets_stay
