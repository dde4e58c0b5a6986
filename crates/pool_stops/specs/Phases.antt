-- Where a plan stands between the steps of its device calls.
use Rattle.std.specs.Prelude.{ℕ, ◌≡◌, ◌⊎◌, false, List, [], ◌∷◌, length, Some, Contains}
use Rattle.model_disk.specs.Joint.{calls_on, content}
use Rattle.model_disk.specs.Runs.{IsSettled}
use Rattle.uberblock_ring.specs.declared.uberblock.Uberblock.{Uberblock}
use Rattle.pool_create.specs.CommitPlanned.{Planned}
use Rattle.disk_set.specs.declared.behind.SlotWrite.{SlotWrite}
use Rattle.block_store.specs.Store.{is_out}
use Rattle.pool_create.specs.Backs.{Backs}
use Rattle.pool_create.specs.CommitState.{State}
use Rattle.pool_create.specs.CommitWriting.{IsDueWrite, PlansFrom, WritesPlan}
use Rattle.pool_model.specs.View.{View}
use Rattle.pool_slots.specs.Commits.{LeadAlways, last_or, only_last, IsNextGroup}
use Rattle.pool_slots.specs.Phases.{AreInBlocks, AreInSlots}
use Rattle.pool_slots.specs.Slots.{AreSettled, InUse}
use Rattle.pool_slots.specs.Writes.{SlotsStand, in_use}
use Rattle.raidz_io.specs.Reads.{OnlyReads}
use Rattle.pool_stops.specs.Standing.{LieBesideLabels, block_trees, filled_trees, unfilled_write}

-- No slot of the plan is written: each disk in use is to be flushed still, or no block is due and nothing on it is unflushed.
pub record IsBeforeSlots (s : State) (plan : Planned) (last : Uberblock) (before : List Uberblock) : Type 0 where
  pub blocks : AreInBlocks (filled_trees s.store.spaces s.store.disks) s.store.out s.store.disks last before
  pub flushed : (disk : ℕ) → InUse s.store.out disk
      → Contains plan.behind.flushes.items disk ⊎ ((s.store.due ≡ []) × IsSettled (calls_on disk s.store.disks.calls))

-- All blocks are written and flushed, and slots may be.
pub record IsInSlots (s : State) (plan : Planned) (last : Uberblock) (before : List Uberblock) : Type 0 where
  pub written : s.store.due ≡ []
  pub begun : plan.behind.flushes.items ≡ []
  pub slots : AreInSlots (block_trees s.store.spaces s.store.disks) s.store.out s.store.disks last before plan.uberblock

-- the plan is in one of its two phases: no slot is written yet, or slots may be
abbrev pub IsInPhase : State → Planned → Uberblock → List Uberblock → Type 0
IsInPhase s plan last before = IsBeforeSlots s plan last before ⊎ IsInSlots s plan last before

-- The plan is of the next group, and may be made: its blocks lie beside what is filled, and its slots are on no disk that is out.
pub record IsGoodPlan (s : State) (plan : Planned) (last : Uberblock) : Type 0 where
  pub lie : LieBesideLabels s.store.disks.starts s.store.spaces
  pub count : length s.store.out ≡ length s.store.disks.starts
  pub unfilled : (which at : ℕ) (bytes : List ℕ) → IsDueWrite s.store.due which at bytes → unfilled_write s.store.spaces which at bytes
  pub next : IsNextGroup last plan.uberblock
  pub slots : (write : SlotWrite) → Contains plan.behind.slots.items write → is_out s.store.out write.disk ≡ false

-- A step of its device calls was made with no disk going out, and some are left.
pub record StepGoesOn (old : State) (plan : Planned) (new : State) (after : Planned) : Type 0 where
  pub writes : WritesPlan old new
  pub planned : old.planned ≡ Some plan
  pub still : new.planned ≡ Some after
  pub out : new.store.out ≡ old.store.out

-- Stopped at any moment of it the disks lead to the last uberblock; or from the slots on to that or to the plan's.
abbrev pub StopsWell : State → Planned → State → Uberblock → List Uberblock → Type 0
StopsWell old plan new last before =
    LeadAlways (filled_trees old.store.spaces old.store.disks) old.store.out old.store.disks new.store.disks (only_last last before)
    ⊎ ((old.store.due ≡ [])
    × LeadAlways (block_trees old.store.spaces old.store.disks) old.store.out old.store.disks new.store.disks (last_or last before plan.uberblock))

-- ---- laws

-- A plan of a state that backs a view may be made, behind the committed group's uberblock.
abbrev pub BackedPlansAreGood : Type 0
BackedPlansAreGood =
    (s : State) (v : View) (plan : Planned) (last : Uberblock) → Backs s v → s.planned ≡ Some plan → length s.store.out ≡ length s.store.disks.starts
    → LieBesideLabels s.store.disks.starts s.store.spaces → last.claim ≡ s.stamp.claim → last.group ≡ v.committed → IsGoodPlan s plan last

-- so the plan's phase goes on
abbrev pub PhasesGoOn : Type 0
PhasesGoOn =
    (old new : State) (plan after : Planned) (last : Uberblock) (before : List Uberblock) → IsGoodPlan old plan last → StepGoesOn old plan new after
    → IsInPhase old plan last before → IsInPhase new after last before × StopsWell old plan new last before

-- whatever is read meanwhile
abbrev pub ReadsKeepThePhase : Type 0
ReadsKeepThePhase =
    (old new : State) (plan : Planned) (last : Uberblock) (before : List Uberblock) → LieBesideLabels old.store.disks.starts old.store.spaces
    → OnlyReads old.store.disks new.store.disks → new ≡ record old { store = record old.store { disks = new.store.disks } }
    → IsInPhase old plan last before → IsInPhase new plan last before × StopsWell old plan new last before

-- A plan that is made or refused leaves the disks in the blocks phase.
abbrev pub PlansKeepThePhase : Type 0
PlansKeepThePhase =
    (old new : State) (last : Uberblock) (before : List Uberblock) → LieBesideLabels old.store.disks.starts old.store.spaces → PlansFrom old new
    → OnlyReads old.store.disks new.store.disks
    → AreInBlocks (filled_trees old.store.spaces old.store.disks) old.store.out old.store.disks last before
    → AreInBlocks (filled_trees new.store.spaces new.store.disks) new.store.out new.store.disks last before
    × LeadAlways (filled_trees old.store.spaces old.store.disks) old.store.out old.store.disks new.store.disks (only_last last before)

-- The last of a plan's device calls were made with no disk going out: its slots stand on each disk in use, flushed.
pub record StepEnds (old : State) (plan : Planned) (new : State) : Type 0 where
  pub writes : WritesPlan old new
  pub planned : old.planned ≡ Some plan
  pub out : new.store.out ≡ old.store.out
  pub stand : SlotsStand (content new.store.disks) new.store.disks.starts plan.uberblock (in_use old.store.out) (length new.store.disks.starts)
  pub settled : AreSettled old.store.out new.store.disks.calls

-- Then the plan's uberblock is the last one, and stopped at any moment of it the disks lead to that or to the one before.
abbrev pub PhasesEnd : Type 0
PhasesEnd =
    (old new : State) (plan : Planned) (last : Uberblock) (before : List Uberblock) → IsGoodPlan old plan last → StepEnds old plan new → IsInSlots old plan last before
    → AreInBlocks (filled_trees new.store.spaces new.store.disks) new.store.out new.store.disks plan.uberblock (last ∷ before)
    × LeadAlways (block_trees old.store.spaces old.store.disks) old.store.out old.store.disks new.store.disks (last_or last before plan.uberblock)
