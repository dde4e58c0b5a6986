use Rattle.raidz_io.proofs.Kept.{others_written}
use Rattle.raidz_io.proofs.laws.stands_while_others_are_written.Goals as goal

pub returns : goal.returns
returns c = others_written
