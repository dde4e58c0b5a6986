use Rattle.scrub_resilver.proofs.Stood.{checked_stand}
use Rattle.scrub_resilver.proofs.laws.checked_blocks_stand.Goals as goal

pub returns : goal.returns
returns c = checked_stand c.honest_disks_give_truly.ensures
