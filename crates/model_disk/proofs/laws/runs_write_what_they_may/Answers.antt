use Rattle.model_disk.proofs.RunLemmas.{makes_is_known}
use Rattle.model_disk.proofs.laws.runs_write_what_they_may.Goals as goal

pub returns : goal.returns
returns c = makes_is_known
