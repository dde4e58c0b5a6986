use Rattle.std.proofs.Common.{◌≡◌, take}
use Rattle.pool_commit.specs.Slots.{all_slots}
use Rattle.pool_commit.proofs.commit.slots_of.Given as goal

abbrev pub invariant-loop-index : goal.invariant-loop-index
invariant-loop-index l = l.slots.items ≡ all_slots (take l.index l.disks.items)
