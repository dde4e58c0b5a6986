use Rattle.std.proofs.Common.{not}
use Rattle.block_store.proofs.Settled.{SettledUpTo}
use Rattle.block_store.proofs.releasing.settle_each.Given as goal

-- the vdevs so far are settled, and where memory was short the flag says so
abbrev pub invariant-loop-vdev : goal.invariant-loop-vdev
invariant-loop-vdev l = SettledUpTo l.group l.fn.spaces.items l.spaces.items l.vdev (not l.failed)
