use Rattle.raidz_io.proofs.Given.{parts_tell}
use Rattle.raidz_io.proofs.laws.parts_tell.Goals as goal

pub returns : goal.returns
returns c = parts_tell
