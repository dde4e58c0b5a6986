-- What is known of a pool's volumes without their bytes.
use Rattle.std.specs.Prelude.{◌≡◌, ℕ, List, length, map, replicate, Option, Some, None, Vec, if◌then◌else◌}
use Rattle.std.specs.Option.{option_map}
use Rattle.std.specs.declared.alloc.Global.{Global}
use Rattle.pool_model.specs.declared.volume.PlainVolume.{PlainVolume}
use Rattle.pool_model.specs.declared.volume.VolumeKind.TheVariants.{Snapshot, Volume}
use Rattle.pool_model.specs.Pools.{PlainPool, is_snapshot, volume_at}
use Rattle.volume_rules.specs.declared.shape.NamedShape.{NamedShape}
use Rattle.volume_rules.specs.declared.shape.VolumeEntry.{VolumeEntry}
use Rattle.volume_rules.specs.declared.shape.VolumeShape.{VolumeShape}

-- a volume's size and block size in bytes, the group that made it, and its kind
abbrev pub shape_of : PlainVolume → VolumeShape
shape_of volume = record { size = length volume.bytes; block_size = volume.block_size; group = volume.group; kind = volume.kind }

-- the shape of the volume of that name
abbrev pub shape_at : List ℕ → PlainPool → Option VolumeShape
shape_at name pool = option_map shape_of (volume_at name pool)

-- its shape, and of a clone the name of its snapshot
abbrev pub entry_of : PlainVolume → VolumeEntry
entry_of volume = record { shape = shape_of volume; origin = volume.origin }

-- the entry of the volume of that name
abbrev pub entry_at : List ℕ → PlainPool → Option VolumeEntry
entry_at name pool = option_map entry_of (volume_at name pool)

-- each volume's name and shape, in the order of the names
abbrev pub rows_of : PlainPool → List NamedShape
rows_of pool = map (λ v. record { name = v.name; shape = shape_of v }) pool.volumes

-- entries as such rows
abbrev pub rows_in : List (Vec ℕ Global × VolumeShape) → List NamedShape
rows_in entries = map (λ e. record { name = e.0.items; shape = e.1 }) entries

-- a volume but for what its bytes are
abbrev pub outline : PlainVolume → PlainVolume
outline volume = record volume { bytes = replicate (length volume.bytes) 0 }

-- the same volumes in the same order, but for what their bytes are
pub record HaveSameShapes (pool other : PlainPool) : Type 0 where
  pub outlines : map outline pool.volumes ≡ map outline other.volumes

-- the shape of a snapshot that a group takes: that of the volume, where there is one and it is no snapshot
abbrev pub taken_shape : ℕ → Option VolumeShape → Option VolumeShape
taken_shape group None = None
taken_shape group (Some shape) = if is_snapshot shape.kind then None else Some (record shape { group = group; kind = Snapshot })

-- the shape of a clone that a group makes: that of the snapshot, where there is one and it is no volume
abbrev pub cloned_shape : ℕ → Option VolumeShape → Option VolumeShape
cloned_shape group None = None
cloned_shape group (Some shape) = if is_snapshot shape.kind then Some (record shape { group = group; kind = Volume }) else None
