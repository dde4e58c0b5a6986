use Rattle.block_store.proofs.Choosing.{NoneBetween}
use Rattle.block_store.proofs.store.BlockStore.find_on.Given as goal

-- no vdev from the first to this one has a metaslab with room that may be taken
abbrev pub invariant-loop-vdev : goal.invariant-loop-vdev
invariant-loop-vdev g l = NoneBetween l.self.spaces l.taken l.wanted l.first l.vdev
