use Rattle.pool_lives.proofs.Lives.{crash_histories_go_on as law}
use Rattle.pool_lives.proofs.crash_histories_go_on.Goals as goal

pub returns : goal.returns
returns g c = law g.D.Disk c.disks_may_be_handed_in.ensures.unfound c.disks_may_be_handed_on.ensures.shown c.disks_may_be_handed_on.ensures.back
