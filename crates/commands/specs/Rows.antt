-- The table of a pool's volumes.
use Rattle.std.specs.Prelude.{◌≡◌, ℕ, List, length, map, string_bytes, Some, None}
use Rattle.pool_command.specs.declared.listing.VolumeRow.{VolumeRow}
use Rattle.pool_model.specs.declared.volume.PlainVolume.{PlainVolume}
use Rattle.pool_model.specs.Pools.{PlainPool, volume_at}

-- what a table tells of a volume or a snapshot
pub record Listed : Type 0 where
  pub name : List ℕ
  pub size : ℕ
  pub block_size : ℕ
  pub group : ℕ

-- what a row tells
abbrev pub listed : VolumeRow → Listed
listed row = record { name = string_bytes row.name; size = row.size; block_size = row.block_size; group = row.group }

-- what is to be told of a volume or a snapshot: its name, its size and block size in bytes, and its group
abbrev pub listed_of : PlainVolume → Listed
listed_of volume = record { name = volume.name; size = length volume.bytes; block_size = volume.block_size; group = volume.group }

-- the rows are those of the pool's volumes, in the order of their names
abbrev pub AreRowsOf : PlainPool → List VolumeRow → Type 0
AreRowsOf pool rows = map listed rows ≡ map listed_of pool.volumes

-- nothing has the name
abbrev pub HasNone : List ℕ → PlainPool → Type 0
HasNone name pool = volume_at name pool ≡ None

-- what has the name has so many bytes
abbrev pub HasOfSize : List ℕ → ℕ → PlainPool → Type 0
HasOfSize name size pool = (volume : PlainVolume) × (volume_at name pool ≡ Some volume) × (size ≡ length volume.bytes)
