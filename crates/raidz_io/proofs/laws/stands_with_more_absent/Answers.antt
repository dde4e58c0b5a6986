use Rattle.raidz_io.proofs.Kept.{more_absent}
use Rattle.raidz_io.proofs.laws.stands_with_more_absent.Goals as goal

pub returns : goal.returns
returns c = more_absent
