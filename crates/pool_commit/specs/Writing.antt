-- What a step of device calls writes, byte for byte.
use Rattle.std.specs.Prelude.{ℕ, ◌≡◌, ◌⊎◌, ◌<◌, Bool, true, List, [], length, filter, not, Some, None, Contains}
use Rattle.model_disk.specs.Runs.{Makes}
use Rattle.block_store.specs.Accounts.{SectorAt}
use Rattle.block_store.specs.Places.{shapes_of, IsNotFree}
use Rattle.block_store.specs.Places.{filled as filled_marks}
use Rattle.block_store.specs.Store.{Store, is_out}
use Rattle.pool_model.specs.View.{disks_of}
use Rattle.pool_commit.specs.Config.{vdevs_of}
use Rattle.raidz_io.specs.Writes.{ColumnWrite}
use Rattle.uberblock_ring.specs.Slot.{slot_bytes}
use Rattle.uberblock_ring.specs.Uberblock.{Fits}
use Rattle.uberblock_ring.specs.declared.uberblock.Uberblock.{Uberblock}
use Rattle.pool_commit.specs.declared.kept.Planned.{Planned}
use Rattle.disk_set.specs.declared.behind.SlotWrite.{SlotWrite}
use Rattle.pool_commit.specs.Calls.{IsFlushed}
use Rattle.pool_commit.specs.Progress.{IsShifted}
use Rattle.pool_commit.specs.Slots.{place_of}
use Rattle.pool_commit.specs.Space.{IsFor}
use Rattle.pool_commit.specs.Spans.{HasSpansAfter}
use Rattle.pool_commit.specs.State.{State}

-- the plan, where there is one, has an uberblock with this timestamp
abbrev pub IsTimed : ℕ → State → Type 0
IsTimed timestamp s = (plan : Planned) → s.planned ≡ Some plan → plan.uberblock.timestamp ≡ timestamp

-- one of these writes of columns
pub record IsDueWrite (due : List ColumnWrite) (which at : ℕ) (bytes : List ℕ) : Type 0 where
  pub write : ColumnWrite
  pub is_due : Contains due write
  pub disk : which ≡ write.disk
  pub place : at ≡ write.offset
  pub same : bytes ≡ write.bytes

-- the uberblock, to one of these of its slots
pub record IsDueSlot (starts : List (List ℕ)) (u : Uberblock) (slots : List SlotWrite) (which at : ℕ) (bytes : List ℕ) : Type 0 where
  pub write : SlotWrite
  pub is_due : Contains slots write
  pub there : write.disk < length starts
  pub is_label : write.label < 4
  pub disk : which ≡ write.disk
  pub place : at ≡ place_of starts write u.group
  pub same : bytes ≡ slot_bytes u

-- What the next calls of a plan may write: blocks that are due; and once none is, and no disk is to be flushed before them, the plan's
-- uberblock, to slots that are due.
abbrev pub may_write : State → Planned → ℕ → ℕ → List ℕ → Type 0
may_write s plan which at bytes =
    IsDueWrite s.store.due which at bytes
    ⊎ ((s.store.due ≡ []) × (plan.behind.flushes.items ≡ []) × IsDueSlot s.store.disks.starts plan.uberblock plan.behind.slots.items which at bytes)

-- A plan goes on: it is of the same group and its uberblock is the same, no sector changes its use, and nothing that was done is to be done
-- again. Each disk that was to be flushed before the slots is so still, or is flushed now that no block is due.
pub record GoesOnWith (old : Store) (plan : Planned) (new : Store) (after : Planned) : Type 0 where
  pub uberblock : after.uberblock ≡ plan.uberblock
  pub leads : after.after ≡ plan.after
  pub spaces : new.spaces ≡ old.spaces
  pub written : old.due ≡ [] → new.due ≡ []
  pub begun : plan.behind.flushes.items ≡ [] → after.behind.flushes.items ≡ []
  pub flushes : (disk : ℕ) → Contains plan.behind.flushes.items disk
      → Contains after.behind.flushes.items disk ⊎ ((new.due ≡ []) × IsFlushed new.disks disk)

-- of as many disks each that was out is out
pub record StayOut (old new : List Bool) : Type 0 where
  pub count : length new ≡ length old
  pub still : (disk : ℕ) → is_out old disk ≡ true → is_out new disk ≡ true

-- a disk is out, and what is committed is as it was
pub record IsDropped (old new : State) : Type 0 where
  pub disk : ℕ
  pub out : is_out new.store.out disk ≡ true
  pub kept : new.kept ≡ old.kept

-- Of the plan that there was, which has a spelling, nothing else was written; with no plan nothing was done. Where it is there still, it goes
-- on, and what is committed stays; else a disk is out and it is dropped, or its group is committed now. The vdevs and what the
-- uberblocks have in common stay, and no disk comes back.
pub record WritesPlan (old new : State) : Type 0 where
  pub idle : old.planned ≡ None → new ≡ old
  pub fits : (plan : Planned) → old.planned ≡ Some plan → Fits plan.uberblock
  pub makes : (plan : Planned) → old.planned ≡ Some plan → Makes (may_write old plan) old.store.disks new.store.disks
  pub goes_on : (plan after : Planned) → old.planned ≡ Some plan → new.planned ≡ Some after → GoesOnWith old.store plan new.store after
  pub stays : (plan after : Planned) → old.planned ≡ Some plan → new.planned ≡ Some after → new.kept ≡ old.kept
  pub ends : (plan : Planned) → old.planned ≡ Some plan → new.planned ≡ None → IsDropped old new ⊎ IsShifted old.kept plan.after new.kept
  pub shapes : shapes_of new.store.spaces ≡ shapes_of old.store.spaces
  pub stamp : new.stamp ≡ old.stamp
  pub stale : new.store.spans.stale ≡ old.store.spans.stale
  pub out : StayOut old.store.out new.store.out

-- ---- plans and reads

-- the disks that are not out, of all vdevs in order
abbrev pub in_use_of : State → List ℕ
in_use_of s = filter (λ disk. not (is_out s.store.out disk)) (disks_of (vdevs_of s.store.spaces))

-- A plan was made, or refused. What is committed stays as it was, no sector that was free is filled now, each disk in use is to be
-- flushed before the plan's slots, and the table of the plan's root has a span of each disk that is out.
pub record PlansFrom (old new : State) : Type 0 where
  pub kept : new.kept ≡ old.kept
  pub stamp : new.stamp ≡ old.stamp
  pub out : new.store.out ≡ old.store.out
  pub stale : new.store.spans.stale ≡ old.store.spans.stale
  pub shapes : shapes_of new.store.spaces ≡ shapes_of old.store.spaces
  pub filled : (at : SectorAt) → IsFor IsNotFree new.store.spaces filled_marks at → IsFor IsNotFree old.store.spaces filled_marks at
  pub flushes : (plan : Planned) → new.planned ≡ Some plan → plan.behind.flushes.items ≡ in_use_of old
  pub spans : (plan : Planned) → new.planned ≡ Some plan → HasSpansAfter old.kept.last old.store.out plan.uberblock.group plan.after
