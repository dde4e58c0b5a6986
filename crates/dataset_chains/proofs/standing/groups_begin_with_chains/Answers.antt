use Rattle.dataset_chains.proofs.Stands.{begins}
use Rattle.dataset_chains.proofs.standing.groups_begin_with_chains.Goals as goal

pub returns : goal.returns
returns c = λ stored group objects pool readings changes none. begins objects changes none stored group pool readings
