use Rattle.pool_commit.proofs.Disks.{vdev_there}
use Rattle.pool_commit.proofs.suspension.vdev_at.Goals as goal

pub returns-clause-there : goal.returns-clause-there
returns-clause-there g c = vdev_there c.args.store.now.spaces c.args.index c.shape.result c.shape.ensures.shape
