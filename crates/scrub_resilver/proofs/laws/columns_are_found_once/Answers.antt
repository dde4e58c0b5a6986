use Rattle.scrub_resilver.proofs.Once.{found_once}
use Rattle.scrub_resilver.proofs.laws.columns_are_found_once.Goals as goal

pub returns : goal.returns
returns c = found_once
