-- The children of a configuration.
use Rattle.std.specs.Prelude.{ℕ, ◌+◌, ◌*◌, List, [], ◌∷◌, ◌++◌, map, Option, Vec}
use Rattle.std.specs.declared.alloc.Global.{Global}
use Rattle.vdev_label.specs.Plain.{PlainVdev}
use Rattle.pool_members.specs.declared.arranging.Child.{Child}

-- the child that this disk is, of a vdev that takes so many sectors of each child for blocks; beside them a disk has 9,216 others
abbrev pub child_of : ℕ → Option ℕ → Child
child_of sectors disk = record { disk = disk; size = (sectors + 9216) * 512 }

-- those of the first vdev with the first list of disks, and so on
abbrev pub all_children : List PlainVdev → List (Vec (Option ℕ) Global) → List Child
all_children [] members = []
all_children (v ∷ vdevs) [] = []
all_children (v ∷ vdevs) (found ∷ members) = map (child_of v.child_sectors) found.items ++ all_children vdevs members
