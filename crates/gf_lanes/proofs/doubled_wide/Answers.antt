use Rattle.gf_lanes.proofs.Lanes.{doubled_by_carry-is}
use Rattle.gf_lanes.proofs.doubled_wide.Goals as goal

pub returns : goal.returns
returns c = doubled_by_carry-is 64 c.args.lanes c.fits-lanes.0 c.fits-lanes.1
