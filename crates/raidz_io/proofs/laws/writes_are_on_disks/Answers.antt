use Rattle.raidz_io.proofs.Kept.{writes_on_disks}
use Rattle.raidz_io.proofs.laws.writes_are_on_disks.Goals as goal

pub returns : goal.returns
returns c = writes_on_disks
