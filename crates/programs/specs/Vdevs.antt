-- The vdev of a schedule's first line.
use Rattle.std.specs.Prelude.{◌≡◌, ◌⊎◌, ℕ, ◌*◌, ◌/◌, ◌^◌, ◌<◌, ◌≤◌}
use Rattle.block_store.specs.declared.create.VdevConfig.{VdevConfig}
use Rattle.block_store.specs.Config.{IsAllowedSize, sectors_of}
use Rattle.pool_model.specs.declared.refusal.Refusal.{Refusal}
use Rattle.pool_model.specs.declared.refusal.Refusal.TheVariants.{NoMemory, BadConfig}
use Rattle.pool_model.specs.View.{Vdev}
use Rattle.raidz_map.specs.Limits.{IsSupported}
use Rattle.schedule_lines.specs.declared.command.PoolLine.{PoolLine}

-- it has all disks of the pool
abbrev pub vdev_of : PoolLine → Vdev
vdev_of line = record { first = 0; children = line.disks; parity = line.parities }

-- how many metaslabs it has, over so many disks of that size
abbrev pub metaslabs_over : ℕ → ℕ → ℕ → ℕ
metaslabs_over disks bytes shift = disks * sectors_of bytes / 2 ^ shift

-- a disk and a metaslab may be of these sizes
pub record AreAllowedSizes (bytes shift : ℕ) : Type 0 where
  pub disk : IsAllowedSize bytes
  pub least : 12 ≤ shift
  pub most : shift ≤ 20

-- There may be a pool as the line asks for: its shape and sizes are allowed, it has at most 1024 metaslabs, and of them at least one is
-- for the pool's own blocks and one for others.
pub record IsAllowedPool (line : PoolLine) : Type 0 where
  pub geometry : IsSupported line.disks line.parities 9
  pub sizes : AreAllowedSizes line.bytes line.metaslab_shift
  pub few : metaslabs_over line.disks line.bytes line.metaslab_shift ≤ 1024
  pub own : 1 ≤ line.meta_metaslabs
  pub others : line.meta_metaslabs < metaslabs_over line.disks line.bytes line.metaslab_shift

-- the vdev that the line asks for, as a store is asked for it
pub record IsVdevOf (line : PoolLine) (vdev : VdevConfig) : Type 0 where
  pub disks : vdev.geometry.children ≡ line.disks
  pub parities : vdev.geometry.parity ≡ line.parities
  pub shift : vdev.metaslab_shift ≡ line.metaslab_shift
  pub meta : vdev.meta_slabs ≡ line.meta_metaslabs

-- why a line makes no pool
abbrev pub RefusesPool : PoolLine → Refusal → Type 0
RefusesPool line cause = (cause ≡ NoMemory) ⊎ ((cause ≡ BadConfig) × ¬ IsAllowedPool line)
