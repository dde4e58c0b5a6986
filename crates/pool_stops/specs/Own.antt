-- A pool's own disks, by what their labels show.
use Rattle.std.specs.Prelude.{ℕ, ◌≡◌, ◌<◌, Bool, List, length, slice_get, string_bytes, Option, Some}
use Rattle.std.specs.List.{flat_map}
use Rattle.model_disk.specs.Joint.{Disks, bytes_of, content}
use Rattle.block_store.specs.declared.shape.VdevShape.{VdevShape}
use Rattle.pool_create.specs.Shapes.{AreShapesOf}
use Rattle.pool_slots.specs.Labels.{IsLabelShown}
use Rattle.pool_format.specs.declared.labeling.PoolIdentity.{PoolIdentity}
use Rattle.pool_stops.specs.Unhindered.{AreAllThere}
use Rattle.vdev_label.specs.Limits.{IsAllowed}
use Rattle.vdev_label.specs.Plain.{PlainLabel, PlainVdev}

-- the guids of a pool's disks, in the order of its configuration
abbrev pub disk_guids : List PlainVdev → List ℕ
disk_guids vdevs = flat_map (λ v. v.children) vdevs

-- the label is of the pool with this name, guid and configuration, and of its disk of this guid
pub record IsOwn (pool : PoolIdentity) (vdevs : List PlainVdev) (guid : ℕ) (l : PlainLabel) : Type 0 where
  pub name_is : l.name ≡ string_bytes pool.name
  pub pool_is : l.pool_guid ≡ pool.guid
  pub guid_is : l.guid ≡ guid
  pub config_is : l.vdevs ≡ vdevs

-- whatever a label of the disk shows is so
abbrev pub IsOwnDisk : PoolIdentity → List PlainVdev → ℕ → ℕ → (ℕ → Option ℕ) → Type 0
IsOwnDisk pool vdevs guid size held = (number : ℕ) (l : PlainLabel) → IsLabelShown size held number l → IsOwn pool vdevs guid l

-- some label of the disk shows one
abbrev pub IsLabeled : ℕ → (ℕ → Option ℕ) → Type 0
IsLabeled size held = (number : ℕ) × (l : PlainLabel) × IsLabelShown size held number l

-- the disks are the pool's, in the order of its configuration
pub record AreOwnDisks (pool : PoolIdentity) (vdevs : List PlainVdev) (disks : Disks) : Type 0 where
  pub count : length disks.starts ≡ length (disk_guids vdevs)
  pub each : (which guid : ℕ) → slice_get (disk_guids vdevs) which ≡ Some guid
      → IsOwnDisk pool vdevs guid (length (bytes_of disks.starts which)) (content disks which)
  pub labeled : (which : ℕ) → which < length disks.starts → IsLabeled (length (bytes_of disks.starts which)) (content disks which)

-- All disks of a pool with this name, guid and configuration, in order: none is out, and its vdevs take them so.
pub record AreDisksOf (pool : PoolIdentity) (vdevs : List PlainVdev) (shapes : List VdevShape) (out : List Bool) (disks : Disks) : Type 0 where
  pub allowed : IsAllowed pool.guid vdevs
  pub shapes_are : AreShapesOf vdevs 0 shapes
  pub there : AreAllThere disks.starts shapes out
  pub own : AreOwnDisks pool vdevs disks

-- what is known by that has the pool's name, byte for byte, and its guid
pub record IsKnownAs (pool identity : PoolIdentity) : Type 0 where
  pub name : string_bytes identity.name ≡ string_bytes pool.name
  pub guid : identity.guid ≡ pool.guid
