use Rattle.std.proofs.Common.{◌≡◌, ◌++◌, map, drop}
use Rattle.vdev_label.specs.Plain.{vdev_view}
use Rattle.pool_open.specs.Children.{all_children}
use Rattle.pool_open.proofs.children.children_of.Given as goal

-- with those of the vdevs that are left they are all
abbrev pub invariant-loop-i : goal.invariant-loop-i
invariant-loop-i l = l.children.items ++ all_children (map vdev_view (drop l.i l.config.vdevs.items)) (drop l.i l.members) ≡ all_children (map vdev_view l.config.vdevs.items) l.members
