-- The pool that a command line asks for.
use Rattle.std.specs.Prelude.{◌≡◌, ◌⊎◌, ◌≤◌, ◌^◌, ℕ, List, [], ◌∷◌, length, string_bytes}
use Rattle.std.specs.Str.{IsUtf8}
use Rattle.block_store.specs.Config.{IsAllowedSize, sectors_of}
use Rattle.pool_command.specs.declared.command.NewPool.{NewPool}
use Rattle.pool_create.specs.PoolIdentity.{PoolIdentity}
use Rattle.vdev_label.specs.Plain.{PlainVdev, config_view}
use Rattle.vdev_label.specs.declared.label.Config.{Config}
use Rattle.file_pools.specs.Guids.{child_guids, guid_of}

-- one vdev, whose children are the files
abbrev pub vdev_of : NewPool → PlainVdev
vdev_of pool = record {
  guid = guid_of pool.seed 1;
  parity = pool.parities;
  child_sectors = sectors_of pool.bytes;
  slab_shift = pool.shift;
  meta_slabs = pool.meta;
  children = child_guids pool.seed (length pool.files);
}

-- the name and the guids that the line gives
pub record IsAskedFor (pool : NewPool) (identity : PoolIdentity) (config : Config) : Type 0 where
  pub name_is : string_bytes identity.name ≡ pool.name
  pub guid_is : identity.guid ≡ guid_of pool.seed 0
  pub vdevs : config_view config ≡ vdev_of pool ∷ []

-- no pool has files of this size, or so many, or this name
abbrev pub IsNoPool : NewPool → Type 0
IsNoPool pool = ¬ IsAllowedSize pool.bytes ⊎ (2 ^ 32 ≤ length pool.files) ⊎ ¬ IsUtf8 pool.name
