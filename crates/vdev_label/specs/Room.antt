-- Which labels have room in their areas, and which configurations have an encoding.
use Rattle.std.specs.Prelude.{ℕ, ◌≤◌, ◌<◌, ◌^◌, List, ◌∷◌, length, All}
use Rattle.words.specs.Words.{AreWords}
use Rattle.vdev_label.specs.Area.{HasRoom}
use Rattle.vdev_label.specs.Config.{FitsConfig, config_bytes, guids}
use Rattle.vdev_label.specs.Limits.{IsAllowed}
use Rattle.vdev_label.specs.Pairs.{label_pairs, InRange}
use Rattle.vdev_label.specs.Plain.{PlainVdev, PlainLabel}
use Rattle.vdev_label.specs.declared.label.State.{State}

-- a label with another claim, group and state
abbrev pub relabeled : PlainLabel → ℕ → ℕ → State → PlainLabel
relabeled l claim group state =
    record {
      claim = claim;
      guid = l.guid;
      name = l.name;
      pool_guid = l.pool_guid;
      state = state;
      top_guid = l.top_guid;
      group = group;
      vdevs = l.vdevs;
    }

-- it has room where the label has
abbrev pub RelabeledHasRoom : Type 0
RelabeledHasRoom =
    (l : PlainLabel) (claim group : ℕ) (state : State) → claim ≤ 2 ^ 62 → group ≤ 2 ^ 62 → HasRoom (label_pairs l) → HasRoom (label_pairs (relabeled l claim group state))

-- the configuration of a label that has room has an encoding
abbrev pub ConfigOfLabelFits : Type 0
ConfigOfLabelFits = (l : PlainLabel) → HasRoom (label_pairs l) → FitsConfig l.vdevs

-- a label of an allowed configuration, whose guids are words of 64 bits, has room
abbrev pub AllowedHasRoom : Type 0
AllowedHasRoom =
    (l : PlainLabel) → InRange l → IsAllowed l.pool_guid l.vdevs → AreWords (l.guid ∷ l.top_guid ∷ l.pool_guid ∷ guids l.vdevs) → HasRoom (label_pairs l)

-- numbers of 64 bits, and at most 65,536 disks
pub record IsSmallVdev (v : PlainVdev) : Type 0 where
  pub guid : v.guid < 2 ^ 64
  pub parity : v.parity < 2 ^ 64
  pub child_sectors : v.child_sectors < 2 ^ 64
  pub slab_shift : v.slab_shift < 2 ^ 64
  pub meta_slabs : v.meta_slabs < 2 ^ 64
  pub few : length v.children ≤ 2 ^ 16
  pub children : All (λ guid. guid < 2 ^ 64) v.children

-- eight such vdevs or fewer have an encoding, of less than 2^46 bytes
abbrev pub SmallConfigsFit : Type 0
SmallConfigsFit = (vdevs : List PlainVdev) → length vdevs ≤ 8 → All IsSmallVdev vdevs → FitsConfig vdevs × (length (config_bytes vdevs) < 2 ^ 46)
