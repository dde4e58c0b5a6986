-- What the configuration of a pool may be.
use Rattle.std.specs.Prelude.{◌≡◌, ◌≢◌, ◌≤◌, ◌<◌, ◌-◌, ◌*◌, ◌/◌, ◌%◌, ◌^◌, ℕ, List, ◌∷◌, length, All, AllPairs}
use Rattle.vdev_label.specs.Config.{guids}
use Rattle.vdev_label.specs.Plain.{PlainVdev}

-- how many metaslabs a vdev has
abbrev pub slabs : PlainVdev → ℕ
slabs v = v.child_sectors * length v.children / 2 ^ v.slab_shift

-- one or two parities of at most 32 disks, of 8 MiB to 2^43 bytes in whole labels; metaslabs of 2^12 to 2^20 sectors, at most 1,024, the last ones for the meta region
pub record IsAllowedVdev (v : PlainVdev) : Type 0 where
  pub parity_from : 1 ≤ v.parity
  pub parity_to : v.parity ≤ 2
  pub children_from : v.parity < length v.children
  pub children_to : length v.children ≤ 32
  pub sectors_from : 7168 ≤ v.child_sectors
  pub sectors_to : v.child_sectors ≤ 2 ^ 34 - 9216
  pub whole : v.child_sectors % 512 ≡ 0
  pub shift_from : 12 ≤ v.slab_shift
  pub shift_to : v.slab_shift ≤ 20
  pub meta : 1 ≤ v.meta_slabs
  pub others : v.meta_slabs < slabs v
  pub slabs_to : slabs v ≤ 1024

-- 1 to 8 such vdevs; the guids of the pool, its vdevs and its disks are not 0, and no two are equal
pub record IsAllowed (pool_guid : ℕ) (vdevs : List PlainVdev) : Type 0 where
  pub vdevs_from : 1 ≤ length vdevs
  pub vdevs_to : length vdevs ≤ 8
  pub each : All IsAllowedVdev vdevs
  pub not_zero : All (λ guid. guid ≢ 0) (pool_guid ∷ guids vdevs)
  pub distinct : AllPairs (λ a b. a ≢ b) (pool_guid ∷ guids vdevs)
