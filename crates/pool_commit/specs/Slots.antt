-- Uberblocks of a pool, and where their slots lie.
use Rattle.std.specs.Prelude.{ℕ, ◌≡◌, ◌⊎◌, ◌<◌, ◌≤◌, List, [], ◌∷◌, length, flat_map, Contains}
use Rattle.model_disk.specs.Joint.{Disks, bytes_of, Stands}
use Rattle.block_pointer.specs.declared.block.Block.{Block}
use Rattle.block_store.specs.Elsewhere.{IsAside}
use Rattle.block_store.specs.Spaces.{VdevSpace}
use Rattle.uberblock_ring.specs.Place.{slot_at}
use Rattle.uberblock_ring.specs.Slot.{slot_bytes, slot_number}
use Rattle.uberblock_ring.specs.declared.uberblock.Uberblock.{Uberblock}
use Rattle.sha2.specs.Sha256.{sha256}
use Rattle.vdev_label.specs.Config.{config_bytes, guid_sum}
use Rattle.vdev_label.specs.Plain.{PlainVdev}
use Rattle.vdev_label.specs.Place.{label_at}
use Rattle.disk_set.specs.declared.behind.SlotWrite.{SlotWrite}
use Rattle.pool_commit.specs.declared.stamp.Stamp.{Stamp}

-- what the uberblocks of a pool of these vdevs have in common, under this claim
pub record IsStampOf (vdevs : List PlainVdev) (claim : ℕ) (stamp : Stamp) : Type 0 where
  pub claim_is : stamp.claim ≡ claim
  pub guids : stamp.guid_sum ≡ guid_sum vdevs
  pub digest : stamp.config_digest ≡ sha256 (config_bytes vdevs)

-- the uberblock of a group with this root
abbrev pub uberblock_of : Stamp → ℕ → Block → ℕ → Uberblock
uberblock_of stamp group root timestamp =
    record { group = group; guid_sum = stamp.guid_sum; timestamp = timestamp; root = root; claim = stamp.claim; config_digest = stamp.config_digest }

-- each disk has room for its four labels, and no block lies on them
abbrev pub LabelsLieAside : List (List ℕ) → List VdevSpace → Type 0
LabelsLieAside starts spaces = (disk : ℕ) → disk < length starts → (1048576 ≤ length (bytes_of starts disk))
    × ((label : ℕ) → label < 4 → IsAside spaces disk (label_at (length (bytes_of starts disk)) label) 262144)

-- one slot in each of a disk's four labels
abbrev pub slots_of_disk : ℕ → List SlotWrite
slots_of_disk disk =
    record { disk = disk; label = 0 } ∷ record { disk = disk; label = 1 } ∷ record { disk = disk; label = 2 } ∷ record { disk = disk; label = 3 } ∷ []

-- the slots that a group's uberblock has on these disks: one in each of the four labels of each
abbrev pub all_slots : List ℕ → List SlotWrite
all_slots disks = flat_map slots_of_disk disks

-- where a slot of that group lies in a label of the disk
abbrev pub place_of : List (List ℕ) → SlotWrite → ℕ → ℕ
place_of starts write group = slot_at (length (bytes_of starts write.disk)) write.label (slot_number group)

-- the uberblock stands in its slot there
abbrev pub ShowsIn : Disks → Uberblock → SlotWrite → Type 0
ShowsIn disks u write = Stands disks write.disk (place_of disks.starts write u.group) (slot_bytes u)

-- it does so, or is still to be written
abbrev pub IsShownOrDue : Disks → Uberblock → List SlotWrite → SlotWrite → Type 0
IsShownOrDue disks u slots write = Contains slots write ⊎ ShowsIn disks u write
