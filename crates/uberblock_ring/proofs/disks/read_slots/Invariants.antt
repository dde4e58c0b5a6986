use Rattle.std.proofs.Common.{◌≡◌, length}
use Rattle.uberblock_ring.specs.Reads.{HasRead}
use Rattle.uberblock_ring.proofs.disks.read_slots.Given as goal

abbrev pub invariant-loop-number : goal.invariant-loop-number
invariant-loop-number g l =
    (l.disks.starts ≡ l.initial.disks.starts) × (length l.found.items ≡ 512) × HasRead l.initial.disks l.disks l.which l.number l.found.items
