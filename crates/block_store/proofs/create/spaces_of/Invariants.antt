use Rattle.block_store.specs.Places.{AreEmpty}
use Rattle.block_store.proofs.Making.{AreSpacesBefore}
use Rattle.block_store.proofs.create.spaces_of.Given as goal

abbrev pub invariant-loop-config : goal.invariant-loop-config
invariant-loop-config g l = AreSpacesBefore l.disks.starts l.vdevs l.config-index l.first l.spaces.items × AreEmpty l.spaces.items
