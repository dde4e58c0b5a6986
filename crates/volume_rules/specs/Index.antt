-- What an index knows.
use Rattle.std.specs.Prelude.{◌≡◌, ℕ, ◌<◌, List, Option, Some, None, false, map, if◌then◌else◌}
use Rattle.std.specs.HashMap.{get_by, spare}
use Rattle.pool_model.specs.Names.{same}
use Rattle.pool_model.specs.declared.item.Change.{Change}
use Rattle.pool_model.specs.declared.item.Change.TheVariants.{Clone, Create, Destroy, Snapshot}
use Rattle.pool_model.specs.declared.volume.PlainVolume.{PlainVolume}
use Rattle.pool_model.specs.Pools.{AreAscending, PlainPool, changed, created, has_clones, has_snapshots, volume_at, with_volume, without}
use Rattle.volume_rules.specs.declared.causes.Dependents.{Dependents}
use Rattle.volume_rules.specs.declared.index.NameChange.{NameChange}
use Rattle.volume_rules.specs.declared.index.NameChange.TheVariants.{Added, Nothing, Removed}
use Rattle.volume_rules.specs.declared.index.NameIndex.{NameIndex}
use Rattle.volume_rules.specs.declared.index.NewName.{NewName}
use Rattle.volume_rules.specs.declared.shape.VolumeShape.{VolumeShape}
use Rattle.volume_rules.specs.Shapes.{cloned_shape, entry_at, entry_of, shape_at, shape_of, taken_shape}

-- At every name the index has the shape and the origin of what the pool has there. The pool's volumes ascend by name.
pub record Knows (index : NameIndex) (pool : PlainPool) : Type 0 where
  pub entries : (name : List ℕ) → get_by (λ key. same name key.items) index.entries ≡ entry_at name pool
  pub ascending : AreAscending pool.volumes

-- the new name is that of a volume of this shape and this origin
pub record IsNameOf (new : NewName) (volume : PlainVolume) : Type 0 where
  pub name : volume.name ≡ new.name
  pub entry : entry_of volume ≡ new.entry

-- the shape of what a change would make of a pool, were its name not there: nothing where there is no volume to take a snapshot of, or no
-- snapshot to make a clone of
abbrev pub MakesShape : ℕ → PlainPool → Change → Option VolumeShape → Type 0
MakesShape group pool (Create name size block_size) shape = shape ≡ Some (shape_of (created group name size block_size))
MakesShape group pool (Snapshot volume part) shape = shape ≡ taken_shape group (shape_at volume pool)
MakesShape group pool (Clone snapshot name) shape = shape ≡ cloned_shape group (shape_at snapshot pool)
MakesShape group pool (Destroy name) shape = shape ≡ None

-- of a clone that a change makes the name of its snapshot
abbrev pub origin_by : Change → Option (List ℕ)
origin_by (Create name size block_size) = None
origin_by (Snapshot volume part) = None
origin_by (Clone snapshot name) = Some snapshot
origin_by (Destroy name) = None

-- What a change makes of a pool: nothing, one volume more, which has this name, or one less.
abbrev pub IsNameChange : ℕ → PlainPool → Change → NameChange → Type 0
IsNameChange group pool change Nothing = changed group pool change ≡ pool
IsNameChange group pool change (Added new) =
    (volume : PlainVolume) × IsNameOf new volume
    × (volume_at volume.name pool ≡ None) × (changed group pool change ≡ with_volume volume pool)
IsNameChange group pool change (Removed name) = changed group pool change ≡ without name pool

-- one name more takes no memory
abbrev pub HasRoom : NameIndex → Type 0
HasRoom index = 0 < spare index.entries

-- what a pool has that hinders a destroy; any other change is hindered by none of it
abbrev pub dependents_of : Change → PlainPool → Dependents
dependents_of (Create name size block_size) pool = record { snapshots = false; clones = false }
dependents_of (Snapshot volume part) pool = record { snapshots = false; clones = false }
dependents_of (Clone snapshot name) pool = record { snapshots = false; clones = false }
dependents_of (Destroy name) pool =
    record { snapshots = has_snapshots name pool; clones = has_clones name pool }

-- a volume of that name is a clone of this snapshot, and any other stays as it is
abbrev pub cloned_of : List ℕ → List ℕ → PlainVolume → PlainVolume
cloned_of name origin volume = if same volume.name name then record volume { origin = Some origin } else volume

-- the pool where the volume of that name, if there is one, is a clone of this snapshot
abbrev pub with_origin : List ℕ → List ℕ → PlainPool → PlainPool
with_origin name origin pool = record pool { volumes = map (cloned_of name origin) pool.volumes }
