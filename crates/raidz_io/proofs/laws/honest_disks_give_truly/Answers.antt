use Rattle.raidz_io.proofs.Given.{honest_disks_give_truly}
use Rattle.raidz_io.proofs.laws.honest_disks_give_truly.Goals as goal

pub returns : goal.returns
returns c = honest_disks_give_truly
