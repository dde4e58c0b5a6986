use Rattle.block_store.proofs.Making.{AreMeasured}
use Rattle.block_store.proofs.create.least_sectors.Given as goal

abbrev pub invariant-loop-disk : goal.invariant-loop-disk
invariant-loop-disk g l = AreMeasured l.disks.starts l.first l.disk l.least
