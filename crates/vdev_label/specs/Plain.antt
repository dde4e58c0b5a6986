-- A label as a plain value, apart from memory.
use Rattle.std.specs.Prelude.{ℕ, List, map, string_bytes}
use Rattle.vdev_label.specs.declared.label.Config.{Config}
use Rattle.vdev_label.specs.declared.label.Label.{Label}
use Rattle.vdev_label.specs.declared.label.State.{State}
use Rattle.vdev_label.specs.declared.label.Vdev.{Vdev}

-- a vdev: it uses child_sectors sectors of 512 bytes of each disk, and a metaslab has 2 to the power of slab_shift sectors
pub record PlainVdev : Type 0 where
  pub guid : ℕ
  pub parity : ℕ
  pub child_sectors : ℕ
  pub slab_shift : ℕ
  pub meta_slabs : ℕ
  -- the numbers of its disks, in order
  pub children : List ℕ

-- a label: what a disk says of itself and of its pool, at a group
pub record PlainLabel : Type 0 where
  pub claim : ℕ
  pub guid : ℕ
  pub name : List ℕ
  pub pool_guid : ℕ
  pub state : State
  pub top_guid : ℕ
  pub group : ℕ
  pub vdevs : List PlainVdev

-- a vdev's values as a plain one
abbrev pub vdev_view : Vdev → PlainVdev
vdev_view v =
    record {
      guid = v.guid;
      parity = v.parity;
      child_sectors = v.child_sectors;
      slab_shift = v.slab_shift;
      meta_slabs = v.meta_slabs;
      children = v.children.items;
    }

-- a configuration as the plain vdevs in it, in order
abbrev pub config_view : Config → List PlainVdev
config_view c = map vdev_view c.vdevs.items

-- a label's values as a plain one
abbrev pub label_view : Label → PlainLabel
label_view l =
    record {
      claim = l.claim;
      guid = l.guid;
      name = string_bytes l.name;
      pool_guid = l.pool_guid;
      state = l.state;
      top_guid = l.top_guid;
      group = l.group;
      vdevs = config_view l.config;
    }
