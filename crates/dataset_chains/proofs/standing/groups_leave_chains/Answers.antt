use Rattle.dataset_chains.proofs.Stands.{leaves}
use Rattle.dataset_chains.proofs.standing.groups_leave_chains.Goals as goal

pub returns : goal.returns
returns c = λ known group objects pool readings changes made chains are. leaves known group objects changes pool readings made chains are
