-- The pool of a schedule's first line, made on disks.
use Rattle.std.specs.Prelude.{◌≡◌, ◌⊎◌, ℕ, zero, suc, ◌+◌, List, [], ◌∷◌, ◌++◌, map, length, Some, None, codes, string_bytes}
use Rattle.block_store.specs.Config.{sectors_of}
use Rattle.block_store.specs.Store.{is_out}
use Rattle.model_disk.specs.Joint.{log_of}
use Rattle.model_disk.specs.MemDisk.{start_of, calls_of}
use Rattle.model_disk.specs.Memory.{AreAllZeros, HaveSize}
use Rattle.model_disk.specs.contracts.memory.MemDiskDisk.TheImpl.{ghosts}
use Rattle.model_disk.specs.declared.memory.MemDisk.{MemDisk}
use Rattle.pool_create.specs.Represents.{Represents}
use Rattle.pool_create.specs.CoreState.{CoreState}
use Rattle.pool_create.specs.Creates.{CreateRefusesOn, IsCreatedOn}
use Rattle.pool_create.specs.Planning.{nobody}
use Rattle.pool_format.specs.declared.labeling.PoolIdentity.{PoolIdentity}
use Rattle.pool_model.specs.Pools.{no_volumes}
use Rattle.pool_model.specs.View.{none_stale, opened_as}
use Rattle.pool_model.specs.declared.refusal.Refusal.{Refusal as Cause}
use Rattle.pool_model.specs.declared.refusal.Refusal.TheVariants as cause
use Rattle.pool_create.specs.Words.{vdevs_in}
use Rattle.pool_create.specs.OpenRefusal.{Refusal}
use Rattle.pool_create.specs.OpenRefusal.TheVariants.{NoMemory, DiskFault, NoSpace, BadLabel, NoUberblock, BadPointer, BadDigest, TooManyMissing, PoolMismatch, BadConfig, BadMap}
use Rattle.schedule_lines.specs.declared.command.PoolLine.{PoolLine}
use Rattle.uberblock_ring.specs.declared.uberblock.Uberblock.{Uberblock}
use Rattle.vdev_label.specs.Plain.{PlainVdev, config_view}
use Rattle.vdev_label.specs.declared.label.Config.{Config}
use Rattle.programs.specs.OnDisks.{PoolState}
use Rattle.programs.specs.Vdevs.{RefusesPool}

-- ---- what is asked for

-- the guids of so many disks: 101, 102 and so on
abbrev pub child_guids : ℕ → List ℕ
child_guids zero = []
child_guids (suc count) = child_guids count ++ (101 + count) ∷ []

-- one vdev of guid 100 that has all disks
abbrev pub plain_vdev : PoolLine → PlainVdev
plain_vdev line = record {
  guid = 100;
  parity = line.parities;
  child_sectors = sectors_of line.bytes;
  slab_shift = line.metaslab_shift;
  meta_slabs = line.meta_metaslabs;
  children = child_guids line.disks;
}

-- the pool is called "pool", and has guid 1
pub record IsAsked (line : PoolLine) (pool : PoolIdentity) (config : Config) : Type 0 where
  pub name : string_bytes pool.name ≡ codes "pool"
  pub guid : pool.guid ≡ 1
  pub vdevs : config_view config ≡ plain_vdev line ∷ []

-- so many disks of this size in memory, all zero, that were not called yet
pub record AreBlank (line : PoolLine) (disks : List MemDisk) : Type 0 where
  pub count : length disks ≡ line.disks
  pub sizes : HaveSize line.disks line.bytes (map start_of disks)
  pub zeros : AreAllZeros line.disks (map start_of disks)
  pub fresh : (which : ℕ) → log_of (map calls_of disks) which ≡ []

-- ---- what comes of it

-- The pool was made on blank disks as group 3, and its core represents one with no volumes.
pub record IsMadeOn (line : PoolLine) (core : CoreState) : Type 0 where
  pub disks : List MemDisk
  pub blank : AreBlank line disks
  pub pool : PoolIdentity
  pub config : Config
  pub asked : IsAsked line pool config
  pub first : Uberblock
  pub made : IsCreatedOn ghosts disks pool config first core
  pub represents : Represents core (opened_as (vdevs_in made.created.shapes) (is_out (nobody made.array.starts)) none_stale 3 no_volumes)

-- and it runs, with all disks in use and no stop set
pub record IsMadePool (line : PoolLine) (pool : PoolState) : Type 0 where
  pub core : CoreState
  pub runs : pool.core ≡ Some core
  pub made : IsMadeOn line core
  pub count : length pool.disks ≡ line.disks
  pub whole : pool.absent ≡ []
  pub unset : pool.stop ≡ None

-- the cause that is printed: what only disks that were used before can be refused for is BadConfig
abbrev pub cause_of : Refusal → Cause
cause_of NoMemory = cause.NoMemory
cause_of DiskFault = cause.DiskFault
cause_of NoSpace = cause.NoSpace
cause_of (BadLabel breach) = cause.BadConfig
cause_of NoUberblock = cause.BadConfig
cause_of BadPointer = cause.BadPointer
cause_of BadDigest = cause.BadDigest
cause_of TooManyMissing = cause.BadConfig
cause_of PoolMismatch = cause.BadConfig
cause_of BadConfig = cause.BadConfig
cause_of BadMap = cause.BadMap

-- the pool that is asked for was refused on blank disks
pub record IsUnmade (line : PoolLine) (why : Cause) : Type 0 where
  pub disks : List MemDisk
  pub blank : AreBlank line disks
  pub pool : PoolIdentity
  pub config : Config
  pub asked : IsAsked line pool config
  pub refusal : Refusal
  pub back : List MemDisk
  pub refused : CreateRefusesOn ghosts disks pool config back refusal
  pub same : why ≡ cause_of refusal

-- why a line makes no pool on disks
abbrev pub RefusesOnDisks : PoolLine → Cause → Type 0
RefusesOnDisks line why = RefusesPool line why ⊎ IsUnmade line why
