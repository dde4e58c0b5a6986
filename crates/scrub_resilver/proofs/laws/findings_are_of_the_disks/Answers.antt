use Rattle.scrub_resilver.proofs.Faults.{found_are_faults}
use Rattle.scrub_resilver.proofs.laws.findings_are_of_the_disks.Goals as goal

pub returns : goal.returns
returns c = found_are_faults c.few_are_not_more.ensures
