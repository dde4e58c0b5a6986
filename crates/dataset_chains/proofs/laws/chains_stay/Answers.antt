use Rattle.dataset_chains.proofs.Staying.{chains_stay}
use Rattle.dataset_chains.proofs.laws.chains_stay.Goals as goal

pub returns : goal.returns
returns c = chains_stay
