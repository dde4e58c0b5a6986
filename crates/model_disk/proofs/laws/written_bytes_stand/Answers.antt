use Rattle.model_disk.proofs.LawLemmas.{written_bytes_stand}
use Rattle.model_disk.proofs.laws.written_bytes_stand.Goals as goal

pub returns : goal.returns
returns c = written_bytes_stand
