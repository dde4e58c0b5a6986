use Rattle.scrub_resilver.proofs.Chosen.{honest_choices}
use Rattle.scrub_resilver.proofs.laws.honest_choices_are_own.Goals as goal

pub returns : goal.returns
returns c = honest_choices
