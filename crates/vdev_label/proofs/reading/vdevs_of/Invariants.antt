use Rattle.std.proofs.Common.{◌≡◌, length, map, take}
use Rattle.nvlist.specs.View.{list_view}
use Rattle.vdev_label.specs.Pairs.{numbered, vdev_pairs}
use Rattle.vdev_label.specs.Plain.{vdev_view}
use Rattle.vdev_label.proofs.reading.vdevs_of.Given as goal

-- the vdevs so far
abbrev pub invariant-loop-id : goal.invariant-loop-id
invariant-loop-id l =
    (length l.vdevs.items ≡ l.id) × (take l.id (map list_view l.lists) ≡ numbered vdev_pairs 0 (map vdev_view l.vdevs.items))
