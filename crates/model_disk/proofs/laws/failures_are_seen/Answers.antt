use Rattle.model_disk.proofs.FailureLemmas.{failures_are_seen}
use Rattle.model_disk.proofs.laws.failures_are_seen.Goals as goal

pub returns : goal.returns
returns c = failures_are_seen
