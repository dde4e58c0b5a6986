-- The configuration of vdevs.
use Rattle.std.specs.Prelude.{ℕ, suc, ◌≡◌, ◌+◌, ◌≤◌, List, [], ◌∷◌, length, All, Option}
use Rattle.std.proofs.Props.{props}
use Rattle.block_store.specs.declared.shape.VdevShape.{VdevShape}
use Rattle.pool_model.specs.View.{counted}
use Rattle.meta_objset.specs.Reading.{HasConfig}
use Rattle.objset.specs.Objects.{Object}
use Rattle.sha2.specs.Sha256.{sha256}
use Rattle.vdev_label.specs.Config.{config_bytes, guid_sum}
use Rattle.vdev_label.specs.Plain.{PlainVdev}
use Rattle.vdev_label.specs.Room.{IsSmallVdev}

-- a vdev of that shape with this guid: its disks have the guids behind it
abbrev pub vdev_with : ℕ → VdevShape → PlainVdev
vdev_with guid shape =
    record {
      guid = guid;
      parity = shape.vdev.geometry.parity;
      child_sectors = shape.child_sectors;
      slab_shift = shape.metaslab_shift;
      meta_slabs = shape.meta_slabs;
      children = counted (suc guid) shape.vdev.geometry.children;
    }

-- vdevs of these shapes, the first with this guid and each later one with a guid that is 100 more
abbrev pub configs_from : ℕ → List VdevShape → List PlainVdev
configs_from guid [] = []
configs_from guid (shape ∷ shapes) = vdev_with guid shape ∷ configs_from (guid + 100) shapes

-- each vdev of these shapes: the guids of the first and of its disks begin with 100, those of the next with 200, and so on
abbrev pub IsConfigOf : List VdevShape → List PlainVdev → Type 0
IsConfigOf shapes vdevs = vdevs ≡ configs_from 100 shapes

-- uberblocks name the one as they name the other
pub record AreNamedAlike (vdevs other : List PlainVdev) : Type 0 where
  pub guids : guid_sum vdevs ≡ guid_sum other
  pub digest : sha256 (config_bytes vdevs) ≡ sha256 (config_bytes other)

-- the object is the table of a configuration that is named as this one
abbrev pub HasConfigAs : Option Object → List PlainVdev → Type 0
HasConfigAs object vdevs = (its : List PlainVdev) × HasConfig object its × AreNamedAlike its vdevs

-- at most eight vdevs, of numbers of 64 bits and at most 65,536 disks: such a configuration has an encoding, which is short enough for a table
pub record FitsTable (vdevs : List PlainVdev) : Type 0 where
  pub few : length vdevs ≤ 8
  pub each : All IsSmallVdev vdevs

pub FitsTable-prop : (vdevs : List PlainVdev) → IsProp (FitsTable vdevs)
FitsTable-prop vdevs = hlevel props
