-- The writes that a commit and an open may make.
use Rattle.std.specs.Prelude.{◌≡◌, ◌⊎◌, ◌<◌, ℕ, ◌+◌, ◌%◌, Bool, List, length, slice_get, get_or, Option, Some, None}
use Rattle.model_disk.specs.Joint.{bytes_of}
use Rattle.uberblock_ring.specs.declared.uberblock.Uberblock.{Uberblock}
use Rattle.uberblock_ring.specs.Slot.{slot_number}
use Rattle.pool_slots.specs.Slots.{InUse, spelled, slot_at}
use Rattle.pool_slots.specs.declared.found.Found.{Found}

-- ---- slots

-- the uberblock's slot in one of the labels that are picked on that disk
pub record IsSlotWrite (starts : List (List ℕ)) (u : Uberblock) (picks : ℕ → ℕ → Type 0) (which at : ℕ) (bytes : List ℕ) : Type 0 where
  pub label : ℕ
  pub is_label : label < 4
  pub picked : picks which label
  pub place : at ≡ slot_at (length (bytes_of starts which)) label (slot_number u.group)
  pub spells : bytes ≡ spelled u

-- all labels of the disks in use
abbrev pub in_use : List Bool → ℕ → ℕ → Type 0
in_use out which label = InUse out which

-- labels 0 and 2, or labels 1 and 3
abbrev pub InHalf : ℕ → ℕ → Type 0
InHalf half label = (label ≡ half) ⊎ (label ≡ half + 2)

-- one half of the labels of one disk: its labels 0 and 2, or its labels 1 and 3
abbrev pub in_half_of : ℕ → ℕ → ℕ → ℕ → Type 0
in_half_of disk half which label = (which ≡ disk) × InHalf half label

-- The half of a disk's labels that a claim writes first: the one in which its highest uberblock was not read; labels 0 and 2 where none was found.
abbrev pub first_half_of : Option Found → ℕ
first_half_of None = 0
first_half_of (Some found) = found.other_half % 2

-- In a claim's first turn (0) that half of each disk in use, in its second (1) the other.
pub record InTurn (out : List Bool) (all : List (Option Found)) (turn which label : ℕ) : Type 0 where
  pub used : InUse out which
  pub half : InHalf ((first_half_of (get_or all which None) + turn) % 2) label

-- what is picked on one disk
abbrev pub on_disk : ℕ → (ℕ → ℕ → Type 0) → ℕ → ℕ → Type 0
on_disk disk picks which label = (which ≡ disk) × picks which label

-- the uberblock stands in its slot in that label
abbrev pub SlotStands : (ℕ → ℕ → Option ℕ) → List (List ℕ) → Uberblock → ℕ → ℕ → Type 0
SlotStands held starts u which label =
    (i : ℕ) → i < length (spelled u) → held which (slot_at (length (bytes_of starts which)) label (slot_number u.group) + i) ≡ slice_get (spelled u) i

-- it does in each label that is picked, on the disks below this number
abbrev pub SlotsStand : (ℕ → ℕ → Option ℕ) → List (List ℕ) → Uberblock → (ℕ → ℕ → Type 0) → ℕ → Type 0
SlotsStand held starts u picks count = (which label : ℕ) → which < count → label < 4 → picks which label → SlotStands held starts u which label
