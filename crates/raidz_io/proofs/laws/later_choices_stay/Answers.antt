use Rattle.raidz_io.proofs.Given.{later_choices_stay}
use Rattle.raidz_io.proofs.laws.later_choices_stay.Goals as goal

pub returns : goal.returns
returns c = later_choices_stay
