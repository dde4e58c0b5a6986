use Rattle.model_disk.proofs.LawLemmas.{honest_reads_give}
use Rattle.model_disk.proofs.laws.honest_reads_give.Goals as goal

pub returns : goal.returns
returns c = honest_reads_give
