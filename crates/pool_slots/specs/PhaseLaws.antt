-- Laws of a commit that is made in steps.
use Rattle.std.specs.Prelude.{◌≡◌, ◌≤◌, ◌<◌, ℕ, ◌+◌, Bool, true, List, ◌∷◌, length, Some}
use Rattle.model_disk.specs.Call.{Call, Wrote, Flushed}
use Rattle.model_disk.specs.Contents.{is_dirty, touches}
use Rattle.model_disk.specs.Joint.{JointCall, Disks, on, bytes_of, calls_on, content}
use Rattle.model_disk.specs.Runs.{Makes, IsSettled, no_write}
use Rattle.uberblock_ring.specs.declared.uberblock.Uberblock.{Uberblock}
use Rattle.uberblock_ring.specs.Slot.{slot_number}
use Rattle.uberblock_ring.specs.Uberblock.{Fits}
use Rattle.pool_slots.specs.Slots.{InUse, HaveLabels, AreSettled, IsSlot, Shows, slot_at, spelled, StayOut}
use Rattle.pool_slots.specs.Possible.{IsInReach, Trees, TreeStands}
use Rattle.pool_slots.specs.Writes.{SlotStands, SlotsStand, in_use}
use Rattle.pool_slots.specs.Commits.{AreOffLabels, AreAt, LeadAlways, only_last, last_or, IsNextGroup}
use Rattle.pool_slots.specs.Phases.{if_used, IsFree, IsInSlot, IsRelabel, AreInBlocks, AreInSlots, CanWriteSlots, free_writes, slot_writes}

-- ---- the blocks phase

-- it begins where an uberblock is committed
abbrev pub BlocksBegin : Type 0
BlocksBegin =
    (trees : Trees) (out : List Bool) (disks : Disks) (last : Uberblock) (before : List Uberblock) → AreAt trees out disks last before
    → AreInBlocks trees out disks last before

-- Reads, flushes and writes of free bytes, answered or failed, keep it. Stopped at any moment of them the disks lead to the last uberblock.
abbrev pub BlocksGoOn : Type 0
BlocksGoOn =
    (trees : Trees) (out : List Bool) (old new : Disks) (last : Uberblock) (before : List Uberblock) → AreInBlocks trees out old last before
    → Makes (free_writes trees out old.starts last before) old new
    → AreInBlocks trees out new last before × LeadAlways trees out old new (only_last last before)

-- so do labels that are written anew, where no tree has a byte of a label
abbrev pub RelabelsGoOn : Type 0
RelabelsGoOn =
    (trees : Trees) (out : List Bool) (old new : Disks) (last : Uberblock) (before : List Uberblock) → AreInBlocks trees out old last before → HaveLabels old.starts
    → AreOffLabels trees out old.starts → Makes (if_used out (IsRelabel old.starts)) old new
    → AreInBlocks trees out new last before × LeadAlways trees out old new (only_last last before)

-- once each disk in use is flushed behind its last write, the last uberblock is committed with nothing unflushed
abbrev pub BlocksEnd : Type 0
BlocksEnd =
    (trees : Trees) (out : List Bool) (disks : Disks) (last : Uberblock) (before : List Uberblock) → AreInBlocks trees out disks last before → AreSettled out disks.calls
    → AreAt trees out disks last before

-- nothing is unflushed but what is free: no slot, no tree
abbrev pub UnflushedIsFree : Type 0
UnflushedIsFree =
    (trees : Trees) (out : List Bool) (disks : Disks) (last : Uberblock) (before : List Uberblock) → AreInBlocks trees out disks last before
    → (which i : ℕ) → InUse out which → is_dirty (calls_on which disks.calls) i ≡ true → IsFree trees disks.starts (only_last last before) which i

-- no slot shows the next uberblock yet
abbrev pub NextIsUnseen : Type 0
NextIsUnseen =
    (trees : Trees) (out : List Bool) (disks : Disks) (last : Uberblock) (before : List Uberblock) → AreInBlocks trees out disks last before
    → (which label slot : ℕ) (u : Uberblock) → InUse out which → IsSlot label slot → IsNextGroup last u
    → ¬ Shows (content disks which) (slot_at (length (bytes_of disks.starts which)) label slot) slot u

-- where some disk is in use, the last uberblock's tree stands
abbrev pub LastTreeStands : Type 0
LastTreeStands =
    (trees : Trees) (out : List Bool) (disks : Disks) (last : Uberblock) (before : List Uberblock) → AreInBlocks trees out disks last before
    → (which : ℕ) → InUse out which → TreeStands trees out (content disks) last.root

-- ---- the slots phase

-- it begins where nothing is unflushed and the next uberblock's tree stands
abbrev pub SlotsBegin : Type 0
SlotsBegin =
    (trees : Trees) (out : List Bool) (disks : Disks) (last : Uberblock) (before : List Uberblock) (u : Uberblock) → CanWriteSlots trees out disks last before u
    → AreInSlots trees out disks last before u

-- Reads, flushes and writes of the new uberblock's slots keep it. Stopped at any moment of them the disks lead to the last uberblock or to this one.
abbrev pub SlotsGoOn : Type 0
SlotsGoOn =
    (trees : Trees) (out : List Bool) (old new : Disks) (last : Uberblock) (before : List Uberblock) (u : Uberblock) → AreInSlots trees out old last before u
    → Makes (slot_writes out old.starts u) old new → AreInSlots trees out new last before u × LeadAlways trees out old new (last_or last before u)

-- once all slots of the disks in use stand, and are flushed, the new uberblock is committed
abbrev pub SlotsEnd : Type 0
SlotsEnd =
    (trees : Trees) (out : List Bool) (disks : Disks) (last : Uberblock) (before : List Uberblock) (u : Uberblock) → AreInSlots trees out disks last before u
    → SlotsStand (content disks) disks.starts u (in_use out) (length disks.starts) → AreSettled out disks.calls → AreAt trees out disks u (last ∷ before)

-- nothing is unflushed but the new uberblock's slots
abbrev pub UnflushedIsSlots : Type 0
UnflushedIsSlots =
    (trees : Trees) (out : List Bool) (disks : Disks) (last : Uberblock) (before : List Uberblock) (u : Uberblock) → AreInSlots trees out disks last before u
    → (which i : ℕ) → InUse out which → is_dirty (calls_on which disks.calls) i ≡ true → IsInSlot (length (bytes_of disks.starts which)) u i

-- what a write of one slot, answered well, leaves of the uberblock's slots
pub record OneSlotMore (old new : Disks) (u : Uberblock) (which label : ℕ) : Type 0 where
  pub stands : SlotStands (content new) old.starts u which label
  pub others : (other number : ℕ) → other < length old.starts → number < 4 → SlotStands (content old) old.starts u other number → SlotStands (content new) old.starts u other number

-- they stand one by one
abbrev pub SlotsStandInTurn : Type 0
SlotsStandInTurn =
    (old new : Disks) (u : Uberblock) (which label : ℕ) → HaveLabels old.starts → Fits u → label < 4 → new.starts ≡ old.starts
    → new.calls ≡ on which (Wrote (slot_at (length (bytes_of old.starts which)) label (slot_number u.group)) (spelled u)) ∷ old.calls → OneSlotMore old new u which label

-- its tree stands meanwhile
abbrev pub SlotsKeepTree : Type 0
SlotsKeepTree =
    (trees : Trees) (out : List Bool) (disks : Disks) (last : Uberblock) (before : List Uberblock) (u : Uberblock) → AreInSlots trees out disks last before u
    → TreeStands trees out (content disks) u.root

-- ---- in all phases

-- whatever disks go out
pub record KeptWithFewer (trees : Trees) (out later : List Bool) (disks : Disks) (last : Uberblock) (before : List Uberblock) : Type 0 where
  pub at : AreAt trees out disks last before → AreAt trees later disks last before
  pub blocks : AreInBlocks trees out disks last before → AreInBlocks trees later disks last before
  pub can : (u : Uberblock) → CanWriteSlots trees out disks last before u → CanWriteSlots trees later disks last before u
  pub slots : (u : Uberblock) → AreInSlots trees out disks last before u → AreInSlots trees later disks last before u
  pub settled : AreSettled out disks.calls → AreSettled later disks.calls
  pub stand : (u : Uberblock) → SlotsStand (content disks) disks.starts u (in_use out) (length disks.starts) → SlotsStand (content disks) disks.starts u (in_use later) (length disks.starts)

-- where disks go out, what held in each phase holds of the disks that are left
abbrev pub DisksGoOut : Type 0
DisksGoOut =
    (trees : Trees) (out later : List Bool) (disks : Disks) (last : Uberblock) (before : List Uberblock) → StayOut out later
    → KeptWithFewer trees out later disks last before

-- whatever is read or flushed
pub record KeptUnwritten (trees : Trees) (out : List Bool) (old new : Disks) (last : Uberblock) (before : List Uberblock) : Type 0 where
  pub at : AreAt trees out old last before → AreAt trees out new last before
  pub blocks : AreInBlocks trees out old last before → AreInBlocks trees out new last before
  pub can : (u : Uberblock) → CanWriteSlots trees out old last before u → CanWriteSlots trees out new last before u
  pub slots : (u : Uberblock) → AreInSlots trees out old last before u → AreInSlots trees out new last before u
  pub settled : (which : ℕ) → IsSettled (calls_on which old.calls) → IsSettled (calls_on which new.calls)
  pub bytes : (which i : ℕ) → content new which i ≡ content old which i

-- reads and flushes, answered or failed, change no phase and no byte, and what was settled stays so
abbrev pub ReadsAndFlushesKeep : Type 0
ReadsAndFlushesKeep =
    (trees : Trees) (out : List Bool) (old new : Disks) (last : Uberblock) (before : List Uberblock) → Makes no_write old new
    → KeptUnwritten trees out old new last before

-- a flush that succeeds settles its disk
abbrev pub FlushSettles : Type 0
FlushSettles = (old new : Disks) (which : ℕ) → new.calls ≡ on which Flushed ∷ old.calls → IsSettled (calls_on which new.calls)

-- ---- what is refused

-- the last call wrote byte i of the disk, answered or failed
pub record WroteLast (disks : Disks) (which i : ℕ) : Type 0 where
  pub call : Call
  pub earlier : List JointCall
  pub is : disks.calls ≡ on which call ∷ earlier
  pub wrote : touches call i ≡ true

-- of disks in use
pub record WrongWritesAreRefused : Type 0 where
  -- a slot in the blocks phase
  pub slot_too_early : (trees : Trees) (out : List Bool) (disks : Disks) (last : Uberblock) (before : List Uberblock) (which label slot i : ℕ) → InUse out which → IsSlot label slot → i < 1024
      → WroteLast disks which (slot_at (length (bytes_of disks.starts which)) label slot + i) → ¬ AreInBlocks trees out disks last before
  -- a byte of a tree that an open may come to
  pub over_a_tree : (trees : Trees) (out : List Bool) (disks : Disks) (last : Uberblock) (before : List Uberblock) (v : Uberblock) (which i value : ℕ) → InUse out which
      → IsInReach (only_last last before) v → trees v.root which i ≡ Some value → WroteLast disks which i → ¬ AreInBlocks trees out disks last before
  -- a slot of another number, as the last uberblock's, in the slots phase
  pub other_slot : (trees : Trees) (out : List Bool) (disks : Disks) (last : Uberblock) (before : List Uberblock) (u : Uberblock) (which label slot i : ℕ) → InUse out which → IsSlot label slot → i < 1024
      → ¬ (slot ≡ slot_number u.group) → 1048576 ≤ length (bytes_of disks.starts which)
      → WroteLast disks which (slot_at (length (bytes_of disks.starts which)) label slot + i) → ¬ AreInSlots trees out disks last before u
