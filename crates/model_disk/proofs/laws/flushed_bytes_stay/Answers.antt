use Rattle.model_disk.proofs.LawLemmas.{flushed_bytes_stay}
use Rattle.model_disk.proofs.laws.flushed_bytes_stay.Goals as goal

pub returns : goal.returns
returns c = flushed_bytes_stay
