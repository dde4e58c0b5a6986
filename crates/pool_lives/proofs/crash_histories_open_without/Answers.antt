use Rattle.pool_lives.proofs.Without.{crash_histories_open_without as law}
use Rattle.pool_lives.proofs.crash_histories_open_without.Goals as goal

pub returns : goal.returns
returns g c = law g.D.Disk c.crash_histories_keep_the_last_group.ensures c.own_pools_open_without.ensures
