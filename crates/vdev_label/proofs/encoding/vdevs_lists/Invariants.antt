use Rattle.std.proofs.Common.{◌≡◌, map, take}
use Rattle.nvlist.specs.View.{list_view}
use Rattle.vdev_label.specs.Pairs.{numbered, vdev_pairs}
use Rattle.vdev_label.specs.Plain.{vdev_view}
use Rattle.vdev_label.proofs.encoding.vdevs_lists.Given as goal

-- those so far
abbrev pub invariant-loop-id : goal.invariant-loop-id
invariant-loop-id l = map list_view l.found.items ≡ numbered vdev_pairs 0 (take l.id (map vdev_view l.vdevs))
