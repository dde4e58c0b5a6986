use Rattle.std.proofs.Common.{◌≡◌, map, take}
use Rattle.nvlist.specs.View.{list_view}
use Rattle.vdev_label.specs.Pairs.{numbered, child_pairs}
use Rattle.vdev_label.proofs.encoding.children_lists.Given as goal

-- those so far
abbrev pub invariant-loop-id : goal.invariant-loop-id
invariant-loop-id l = map list_view l.found.items ≡ numbered child_pairs 0 (take l.id l.children)
