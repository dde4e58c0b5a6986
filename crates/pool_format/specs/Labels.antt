-- The labels of a new pool.
use Rattle.std.specs.Prelude.{◌≡◌, ◌<◌, ℕ, List, length, map, slice_get, string_bytes, Some, Option}
use Rattle.std.specs.List.{flat_map}
use Rattle.model_disk.specs.Joint.{Disks, bytes_of, content}
use Rattle.vdev_label.specs.Plain.{PlainVdev, PlainLabel, config_view}
use Rattle.vdev_label.specs.declared.label.Config.{Config}
use Rattle.vdev_label.specs.declared.label.State.TheVariants.{Active}
use Rattle.pool_slots.specs.Labels.{IsLabelShown, area_place, inscribed}
use Rattle.pool_format.specs.declared.children.Child.{Child}
use Rattle.pool_format.specs.declared.labeling.PoolIdentity.{PoolIdentity}

-- ---- which labels

-- the children of a vdev of this guid, in order
abbrev pub children_with : ℕ → List ℕ → List Child
children_with top_guid guids = map (λ guid. record { top_guid = top_guid; guid = guid }) guids

-- those of all vdevs
abbrev pub children_of : List PlainVdev → List Child
children_of vdevs = flat_map (λ v. children_with v.guid v.children) vdevs

-- a label, as that of this child
abbrev pub of_child : PlainLabel → Child → PlainLabel
of_child l child =
    record {
      claim = l.claim;
      guid = child.guid;
      name = l.name;
      pool_guid = l.pool_guid;
      state = l.state;
      top_guid = child.top_guid;
      group = l.group;
      vdevs = l.vdevs;
    }

-- what the label of a child of the pool is, for this claim and group
abbrev pub label_of : PoolIdentity → Config → ℕ → ℕ → Child → PlainLabel
label_of pool config claim group child =
    record {
      claim = claim;
      guid = child.guid;
      name = string_bytes pool.name;
      pool_guid = pool.guid;
      state = Active;
      top_guid = child.top_guid;
      group = group;
      vdevs = config_view config;
    }

-- one for each child, in order
abbrev pub labels_of : PoolIdentity → Config → ℕ → ℕ → List PlainLabel
labels_of pool config claim group = map (label_of pool config claim group) (children_of (config_view config))

-- ---- what is written

-- the area of the label, in one of its four places on a disk of this size
pub record IsAreaOf (size : ℕ) (l : PlainLabel) (at : ℕ) (bytes : List ℕ) : Type 0 where
  pub number : ℕ
  pub is_label : number < 4
  pub place : at ≡ area_place size number
  pub spells : bytes ≡ inscribed l

-- on that disk
abbrev pub label_on : List (List ℕ) → ℕ → PlainLabel → ℕ → ℕ → List ℕ → Type 0
label_on starts disk l which at bytes = (which ≡ disk) × IsAreaOf (length (bytes_of starts which)) l at bytes

-- each disk's own label, of the list that has one for each disk
pub record IsLabelWrite (starts : List (List ℕ)) (labels : List PlainLabel) (which at : ℕ) (bytes : List ℕ) : Type 0 where
  pub l : PlainLabel
  pub is : slice_get labels which ≡ Some l
  pub area : IsAreaOf (length (bytes_of starts which)) l at bytes

-- ---- what is shown

-- the four labels of a disk of this size show it
abbrev pub AllShow : ℕ → (ℕ → Option ℕ) → PlainLabel → Type 0
AllShow size held l = (number : ℕ) → number < 4 → IsLabelShown size held number l

-- those of each disk show its own label of the list
abbrev pub AreLabeled : Disks → List PlainLabel → Type 0
AreLabeled disks labels = (which : ℕ) (l : PlainLabel) → slice_get labels which ≡ Some l → AllShow (length (bytes_of disks.starts which)) (content disks which) l
