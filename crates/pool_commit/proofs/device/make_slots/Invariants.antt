use Rattle.std.proofs.Common.{◌≡◌, length}
use Rattle.model_disk.specs.Runs.{Makes}
use Rattle.disk_set.specs.declared.behind.SlotWrite.{SlotWrite}
use Rattle.pool_commit.specs.Writing.{IsDueSlot}
use Rattle.pool_commit.proofs.Writing.{IsRestOf}
use Rattle.pool_commit.specs.HasDisks.{AreSlotsBelow}
use Rattle.pool_commit.specs.Making.{MadeSlots, SlotsMove}
use Rattle.pool_commit.proofs.device.make_slots.Given as goal

abbrev pub invariant-loop : goal.invariant-loop
invariant-loop g l =
    MadeSlots l.initial.store l.store l.initial.slots.items l.slots.items l.counter
    × (l.store.due ≡ l.initial.store.due)
    × (l.store.disks.starts ≡ l.initial.store.disks.starts)
    × (l.store.spaces ≡ l.initial.store.spaces)
    × AreSlotsBelow (length l.initial.store.disks.starts) l.slots.items
    × SlotsMove l.initial.store l.store l.initial.uberblock l.initial.slots.items l.slots.items
    × IsRestOf SlotWrite l.initial.slots.items l.slots.items
    × Makes (IsDueSlot l.initial.store.disks.starts l.initial.uberblock l.initial.slots.items) l.initial.store.disks l.store.disks
