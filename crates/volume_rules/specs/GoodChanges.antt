-- Changes that a pool may make.
use Rattle.std.specs.Prelude.{◌≡◌, ℕ, ◌%◌, ◌^◌, Bool, true, false, nat_le, ◌==◌, ◌&&◌}
use Rattle.std.specs.List.{AllByRecursion}
use Rattle.pool_model.specs.declared.item.Change.{Change}
use Rattle.pool_model.specs.declared.item.Change.TheVariants.{Clone, Create, Destroy, Snapshot}
use Rattle.pool_model.specs.declared.volume.VolumeKind.TheVariants.{Snapshot as SnapshotKind}
use Rattle.pool_model.specs.Names.{is_name, is_name_for, is_whole_name, is_block_size}
use Rattle.pool_model.specs.Pools.{Entry}

-- a volume may have this size and this block size
abbrev pub is_good_size : ℕ → ℕ → Bool
is_good_size size block_size = is_block_size block_size && ((size % block_size == 0) && (nat_le block_size size && nat_le size (2 ^ 40)))

-- a volume may be made so: with such a name, and of such a size, or of what can be a snapshot; a snapshot may be taken so; and what is
-- destroyed may have such a name
abbrev pub is_good_change : Change → Bool
is_good_change (Create name size block_size) = is_name name && is_good_size size block_size
is_good_change (Snapshot volume part) = is_name volume && is_name part
is_good_change (Clone snapshot name) = is_name_for SnapshotKind snapshot && is_name name
is_good_change (Destroy name) = is_whole_name name

-- it makes something, which may be made so
abbrev pub is_good_making : Change → Bool
is_good_making (Create name size block_size) = is_good_change (Create name size block_size)
is_good_making (Snapshot volume part) = is_good_change (Snapshot volume part)
is_good_making (Clone snapshot name) = is_good_change (Clone snapshot name)
is_good_making (Destroy name) = false

-- each change of the group is a good one
abbrev pub MakesGoodVolumes : Entry → Type 0
MakesGoodVolumes entry = AllByRecursion (λ a. is_good_change a.change ≡ true) entry.actions
