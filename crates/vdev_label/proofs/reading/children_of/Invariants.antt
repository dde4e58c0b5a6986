use Rattle.std.proofs.Common.{◌≡◌, length, map, take}
use Rattle.nvlist.specs.View.{list_view}
use Rattle.vdev_label.specs.Pairs.{numbered, child_pairs}
use Rattle.vdev_label.proofs.reading.children_of.Given as goal

-- the disks so far
abbrev pub invariant-loop-id : goal.invariant-loop-id
invariant-loop-id l =
    (length l.guids.items ≡ l.id) × (take l.id (map list_view l.lists) ≡ numbered child_pairs 0 l.guids.items)
