-- Where the slots of a disk lie.
use Rattle.std.specs.Prelude.{ℕ, ◌+◌, ◌*◌, ◌/◌, ◌%◌}
use Rattle.vdev_label.specs.Place.{label_at}

-- where a slot of a label begins on a disk of this size
abbrev pub slot_at : ℕ → ℕ → ℕ → ℕ
slot_at size label slot = label_at size label + (131072 + 1024 * slot)

-- where a disk's slot i begins: the slots of its labels are counted one label after the other
abbrev pub nth_slot_at : ℕ → ℕ → ℕ
nth_slot_at size i = slot_at size (i / 128) (i % 128)
