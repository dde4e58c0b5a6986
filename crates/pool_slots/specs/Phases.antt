-- Where a commit that is made in steps stands between its calls. All is said of the disks in use alone.
use Rattle.std.specs.Prelude.{◌≡◌, ◌⊎◌, ◌≤◌, ◌<◌, ℕ, ◌+◌, Bool, true, List, length, None}
use Rattle.model_disk.specs.Contents.{covers}
use Rattle.model_disk.specs.Joint.{Disks, bytes_of, content}
use Rattle.model_disk.specs.Runs.{Makes}
use Rattle.uberblock_ring.specs.declared.uberblock.Uberblock.{Uberblock}
use Rattle.uberblock_ring.specs.Uberblock.{Fits}
use Rattle.uberblock_ring.specs.Slot.{slot_number}
use Rattle.pool_slots.specs.Slots.{InUse, HaveLabels, IsSlot, slot_at}
use Rattle.pool_slots.specs.Possible.{Possible, IsInReach, Trees, TreeStands}
use Rattle.pool_slots.specs.Writes.{IsSlotWrite, in_use}
use Rattle.pool_slots.specs.Commits.{AreOffLabels, AreAt, only_last, IsNextGroup}
use Rattle.pool_slots.specs.Labels.{area_place}

-- ---- which writes

-- on a disk in use only these writes, on the others any
abbrev pub if_used : List Bool → (ℕ → ℕ → List ℕ → Type 0) → ℕ → ℕ → List ℕ → Type 0
if_used out may which at bytes = InUse out which → may which at bytes

-- the byte is in no slot of a disk of this size
abbrev pub IsOffSlots : ℕ → ℕ → Type 0
IsOffSlots size i = (label slot : ℕ) → IsSlot label slot → (i < slot_at size label slot) ⊎ (slot_at size label slot + 1024 ≤ i)

-- it is in no slot, and in no tree that an open may come to
pub record IsFree (trees : Trees) (starts : List (List ℕ)) (p : Possible) (which i : ℕ) : Type 0 where
  pub off_slots : IsOffSlots (length (bytes_of starts which)) i
  pub off_trees : (u : Uberblock) → IsInReach p u → trees u.root which i ≡ None

-- each byte of the write is free
abbrev pub IsFreeWrite : Trees → List (List ℕ) → Possible → ℕ → ℕ → List ℕ → Type 0
IsFreeWrite trees starts p which at bytes = (i : ℕ) → covers at (length bytes) i ≡ true → IsFree trees starts p which i

-- what may be written while the last uberblock is the one committed
abbrev pub free_writes : Trees → List Bool → List (List ℕ) → Uberblock → List Uberblock → ℕ → ℕ → List ℕ → Type 0
free_writes trees out starts last before which at bytes = if_used out (IsFreeWrite trees starts (only_last last before)) which at bytes

-- what may be written once the new tree is flushed
abbrev pub slot_writes : List Bool → List (List ℕ) → Uberblock → ℕ → ℕ → List ℕ → Type 0
slot_writes out starts u which at bytes = if_used out (IsSlotWrite starts u (in_use out)) which at bytes

-- a label's area is written anew
pub record IsRelabel (starts : List (List ℕ)) (which at : ℕ) (bytes : List ℕ) : Type 0 where
  pub number : ℕ
  pub is_label : number < 4
  pub place : at ≡ area_place (length (bytes_of starts which)) number
  pub whole : length bytes ≡ 114688

-- byte i of a disk of this size is in the uberblock's slot of one of its labels
pub record IsInSlot (size : ℕ) (u : Uberblock) (i : ℕ) : Type 0 where
  pub label : ℕ
  pub is_label : label < 4
  pub inside : covers (slot_at size label (slot_number u.group)) 1024 i ≡ true

-- ---- phases

-- The blocks phase, and all that is between commits: since a moment at which the last uberblock was committed and nothing unflushed, only
-- free bytes were written, by the present plan or by dropped ones, or to labels beside their slots.
pub record AreInBlocks (trees : Trees) (out : List Bool) (disks : Disks) (last : Uberblock) (before : List Uberblock) : Type 0 where
  pub settled : Disks
  pub at : AreAt trees out settled last before
  pub makes : Makes (free_writes trees out settled.starts last before) settled disks

-- Slots of the next uberblock may be written: nothing is unflushed, and its tree stands.
pub record CanWriteSlots (trees : Trees) (out : List Bool) (disks : Disks) (last : Uberblock) (before : List Uberblock) (u : Uberblock) : Type 0 where
  pub at : AreAt trees out disks last before
  pub next : IsNextGroup last u
  pub fits : Fits u
  pub tree : TreeStands trees out (content disks) u.root
  pub labels : HaveLabels disks.starts
  pub off_labels : AreOffLabels trees out disks.starts

-- The slots phase: since such a moment only its slots were written.
pub record AreInSlots (trees : Trees) (out : List Bool) (disks : Disks) (last : Uberblock) (before : List Uberblock) (u : Uberblock) : Type 0 where
  pub settled : Disks
  pub could : CanWriteSlots trees out settled last before u
  pub makes : Makes (slot_writes out settled.starts u) settled disks
