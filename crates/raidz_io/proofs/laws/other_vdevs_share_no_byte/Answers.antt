use Rattle.raidz_io.proofs.Kept.{other_vdevs}
use Rattle.raidz_io.proofs.laws.other_vdevs_share_no_byte.Goals as goal

pub returns : goal.returns
returns c = other_vdevs
