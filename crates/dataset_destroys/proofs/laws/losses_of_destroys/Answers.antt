use Rattle.dataset_destroys.proofs.Losses.{losses_of_destroys}
use Rattle.dataset_destroys.proofs.laws.losses_of_destroys.Goals as goal

pub returns : goal.returns
returns c = losses_of_destroys
