use Rattle.model_disk.proofs.LawLemmas.{unwritten_disks_stay}
use Rattle.model_disk.proofs.laws.unwritten_disks_stay.Goals as goal

pub returns : goal.returns
returns c = unwritten_disks_stay
