-- What reading or writing slots asks of the disks, and answers.
use Rattle.std.specs.Prelude.{◌≡◌, ◌<◌, ◌%◌, ℕ, zero, suc, List, [], ◌∷◌, ◌++◌, length, get_or, Option, Some, None, Result, Ok, Err, Vec}
use Rattle.model_disk.specs.Call.{Read, FailedRead}
use Rattle.model_disk.specs.Joint.{JointCall, Disks, on, bytes_of}
use Rattle.std.specs.declared.alloc.Global.{Global}
use Rattle.model_disk.specs.declared.disk.DiskError.{DiskError}
use Rattle.uberblock_ring.specs.Place.{nth_slot_at}
use Rattle.uberblock_ring.specs.Slot.{SpellsSlot}
use Rattle.uberblock_ring.specs.declared.refusal.Refusal.{Refusal}
use Rattle.uberblock_ring.specs.declared.refusal.Refusal.TheVariants.{NoUberblock, DiskFault, NoMemory}
use Rattle.uberblock_ring.specs.declared.uberblock.Uberblock.{Uberblock}

-- how large that disk is
abbrev pub size_of : Disks → ℕ → ℕ
size_of disks which = length (bytes_of disks.starts which)

-- what the bytes of a slot say: nothing, or one uberblock and no other
abbrev pub IsReading : ℕ → List ℕ → Option Uberblock → Type 0
IsReading slot bytes (Some u) = SpellsSlot slot bytes u × ((v : Uberblock) → SpellsSlot slot bytes v → v ≡ u)
IsReading slot bytes None = (u : Uberblock) → ¬ SpellsSlot slot bytes u

-- the bytes of a whole slot, and what they say
abbrev pub IsSlotRead : ℕ → List ℕ → Option Uberblock → Type 0
IsSlotRead slot bytes found = (length bytes ≡ 1024) × IsReading slot bytes found

-- one read of a disk's slot i, and what it says; or it failed
abbrev pub ReadsSlot : Disks → Disks → ℕ → ℕ → Result (Option Uberblock) DiskError → Type 0
ReadsSlot old new which i (Ok found) = (bytes : List ℕ) × (new.calls ≡ on which (Read (nth_slot_at (size_of old which) i) bytes) ∷ old.calls) × IsSlotRead (i % 128) bytes found
ReadsSlot old new which i (Err fault) = new.calls ≡ on which (FailedRead (nth_slot_at (size_of old which) i) 1024) ∷ old.calls

-- the reads of the first n slots of a disk of this size, the last one first, by the bytes that each gave
abbrev pub slot_reads : ℕ → ℕ → (ℕ → List ℕ) → ℕ → List JointCall
slot_reads which size bytes zero = []
slot_reads which size bytes (suc n) = on which (Read (nth_slot_at size n) (bytes n)) ∷ slot_reads which size bytes n

-- since the old state the first n slots of that disk were read, in order, and these are what they say
pub record HasRead (old new : Disks) (which n : ℕ) (found : List (Option Uberblock)) : Type 0 where
  pub bytes : ℕ → List ℕ
  pub calls : new.calls ≡ slot_reads which (size_of old which) bytes n ++ old.calls
  pub each : (i : ℕ) → i < n → IsSlotRead (i % 128) (bytes i) (get_or found i None)

-- since the old state the first n slots of that disk were read, in order, and the read of the next one failed
pub record HasFailedAt (old new : Disks) (which n : ℕ) : Type 0 where
  pub bytes : ℕ → List ℕ
  pub calls : new.calls ≡ on which (FailedRead (nth_slot_at (size_of old which) n) 1024) ∷ (slot_reads which (size_of old which) bytes n ++ old.calls)

-- what the 512 slots of a disk say, after one read of each; or a read failed, and was the last; or memory ran out before the first
abbrev pub ReadsSlots : Disks → Disks → ℕ → Result (Vec (Option Uberblock) Global) Refusal → Type 0
ReadsSlots old new which (Ok found) = (length found.items ≡ 512) × HasRead old new which 512 found.items
ReadsSlots old new which (Err DiskFault) = (n : ℕ) × (n < 512) × HasFailedAt old new which n
ReadsSlots old new which (Err NoMemory) = new.calls ≡ old.calls
ReadsSlots old new which (Err NoUberblock) = ⊥
