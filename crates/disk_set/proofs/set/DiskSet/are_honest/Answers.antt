use Rattle.std.proofs.Common.{subst}
use Rattle.model_disk.specs.Joint.{AreHonestSince}
use Rattle.disk_set.specs.Set.{PoolDisks}
use Rattle.disk_set.proofs.set.DiskSet.are_honest.Goals as goal

pub returns : goal.returns
returns g c n = subst (λ (s : PoolDisks). AreHonestSince n s.disks.starts s.disks.calls) c.self.view_is (c.are_honest.ensures.since n)
