use Rattle.std.proofs.Common.{◌≡◌, length, All}
use Rattle.model_disk.proofs.NewDisks.{IsNew}
use Rattle.model_disk.proofs.memory.MemDisk.several.Given as goal

-- the disks so far
abbrev pub invariant-loop : goal.invariant-loop
invariant-loop l = (length l.disks.items ≡ l.counter) × All (IsNew l.size) l.disks.items
