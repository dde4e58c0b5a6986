use Rattle.std.proofs.Common.{ℕ, ◌<◌, get_or}
use Rattle.block_store.specs.Spaces.{VdevSpace, IsSpace}
use Rattle.block_store.proofs.store.BlockStore.are_sized.Given as goal

-- the vdevs so far have their metaslabs
abbrev pub invariant-loop-space : goal.invariant-loop-space
invariant-loop-space g l = (k : ℕ) (d : VdevSpace) → k < l.space-index → IsSpace (get_or l.self.spaces k d)
