use Rattle.raidz_io.proofs.Given.{parts_give_truly}
use Rattle.raidz_io.proofs.laws.parts_give_truly.Goals as goal

pub returns : goal.returns
returns c = parts_give_truly
