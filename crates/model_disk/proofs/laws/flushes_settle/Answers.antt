use Rattle.model_disk.proofs.RunLemmas.{flushes_settle}
use Rattle.model_disk.proofs.laws.flushes_settle.Goals as goal

pub returns : goal.returns
returns c = flushes_settle
