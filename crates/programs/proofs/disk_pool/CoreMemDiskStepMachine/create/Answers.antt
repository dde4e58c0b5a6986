use Rattle.programs.proofs.Pools.{refused_for}
use Rattle.programs.proofs.disk_pool.CoreMemDiskStepMachine.create.Goals as goal

pub returns-clause-refused : goal.returns-clause-refused
returns-clause-refused c = refused_for c.args.line.now c.in-Some.vdev _ _ _ c.in-Some.ensures.some c.in-Ok.ensures.count c.in-Ok.ensures.sizes c.create.ensures.refused
