use Rattle.pool_members.proofs.Returned.{all_come_back}
use Rattle.pool_members.proofs.laws.called_disks_come_back.Goals as goal

pub returns : goal.returns
returns g c = all_come_back g.D.Disk
