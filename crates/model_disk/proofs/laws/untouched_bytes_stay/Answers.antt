use Rattle.model_disk.proofs.RunLemmas.{untouched_bytes_stay, settled_bytes_stay}
use Rattle.model_disk.proofs.laws.untouched_bytes_stay.Goals as goal

pub returns-clause-now : goal.returns-clause-now
returns-clause-now c = untouched_bytes_stay

pub returns-clause-after_a_crash : goal.returns-clause-after_a_crash
returns-clause-after_a_crash c = settled_bytes_stay
