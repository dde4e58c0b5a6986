use Rattle.raidz_io.proofs.Placed.{extent_fits}
use Rattle.raidz_io.proofs.laws.extent_fits.Goals as goal

pub returns : goal.returns
returns c = extent_fits
