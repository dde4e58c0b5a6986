use Rattle.model_disk.proofs.LawLemmas.{other_bytes_stay}
use Rattle.model_disk.proofs.laws.other_bytes_stay.Goals as goal

pub returns : goal.returns
returns c = other_bytes_stay
