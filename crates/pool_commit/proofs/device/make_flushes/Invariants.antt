use Rattle.std.proofs.Common.{◌≡◌, length}
use Rattle.model_disk.specs.Runs.{Makes, no_write}
use Rattle.pool_commit.specs.HasDisks.{AreBelow}
use Rattle.pool_commit.specs.Making.{MadeFlushes, FlushesMove, KeepsContent}
use Rattle.pool_commit.proofs.device.make_flushes.Given as goal

abbrev pub invariant-loop : goal.invariant-loop
invariant-loop g l =
    MadeFlushes l.initial.store l.store l.initial.flushes.items l.flushes.items l.counter
    × (l.store.due ≡ l.initial.store.due)
    × (l.store.disks.starts ≡ l.initial.store.disks.starts)
    × AreBelow (length l.initial.store.disks.starts) l.flushes.items
    × FlushesMove l.initial.store l.store l.initial.flushes.items l.flushes.items
    × KeepsContent l.initial.store l.store
    × Makes no_write l.initial.store.disks l.store.disks
