use Rattle.pool_stops.proofs.Reopening.{led_disks_open as law}
use Rattle.pool_stops.proofs.laws.led_disks_open.Goals as goal

pub returns : goal.returns
returns c = law c.blocks_phase.ensures.begins
