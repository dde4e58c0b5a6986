-- How far device calls bring a plan.
use Rattle.std.specs.Prelude.{ℕ, suc, ◌≡◌, ◌+◌, ◌<◌, ◌^◌, Contains, List, [], ◌∷◌, ◌++◌, length, map, ◌⊎◌, true, false, Option, Some, None}
use Rattle.std.specs.List.{AllByRecursion}
use Rattle.model_disk.specs.Joint.{Disks}
use Rattle.block_store.specs.Blocks.{Contents}
use Rattle.block_store.specs.Places.{Marks, shapes_of, filled, HaveMarks}
use Rattle.block_store.specs.Places.{planned as planned_marks}
use Rattle.block_store.specs.Plans.{Plans}
use Rattle.block_store.specs.Store.{Store}
use Rattle.pool_model.specs.declared.step.Phase.{Phase}
use Rattle.pool_model.specs.View.{View, Given, DueCall, Due, is_away, is_suspended, disks_in_use}
use Rattle.pool_model.specs.Machine.{is_late, Makes, GoesOn, Ends, committed_next, dropped}
use Rattle.pool_commit.specs.declared.device.Progress.{Progress}
use Rattle.pool_commit.specs.declared.device.Progress.TheVariants.{Moved, Done, Dropped}
use Rattle.block_pointer.specs.declared.block.Block.{Block}
use Rattle.disk_set.specs.declared.behind.Behind.{Behind}
pub use Rattle.disk_set.specs.Behind.{LeftOut}
use Rattle.pool_commit.specs.declared.kept.Kept.{Kept}
use Rattle.pool_commit.specs.declared.kept.KeptGroup.{KeptGroup}
use Rattle.pool_commit.specs.declared.kept.Planned.{Planned}
use Rattle.disk_set.specs.declared.behind.SlotWrite.{SlotWrite}
use Rattle.pool_commit.specs.Backs.{Backs}
use Rattle.pool_commit.specs.Calls.{disk_call, made_between, faults_between, unread_between, called_between, IsFlushed}
use Rattle.pool_commit.specs.Slots.{ShowsIn, uberblock_of}
use Rattle.pool_commit.specs.State.{State}
use Rattle.pool_commit.specs.Suspension.{lacks_disks}

-- these are the writes and flushes that were made, no disk was called but by them, and none of them is on one that is out
pub record AreMade (old new : Disks) (v : View) (made : List DueCall) : Type 0 where
  pub seen : map disk_call made ≡ made_between old new
  pub unread : unread_between old new ≡ []
  pub called : called_between old new ≡ map (λ call. call.disk) made
  pub in_use : AllByRecursion (λ call. is_away v call.disk ≡ false) made

-- the writes and flushes that were made, and the one that failed, as they are given to a step
abbrev pub given_calls : List DueCall → Option DueCall → Given
given_calls made fault = record { made = made; fault = fault; unread = []; lost = None; trusted = true; full = false }

-- the call that failed, if one did
abbrev pub fault_list : Option DueCall → List DueCall
fault_list None = []
fault_list (Some call) = call ∷ []

-- calls of the plan were made, and some are left; from the slots on with or without the disk of the last one
pub record MovesOn (old new : Disks) (v : View) (phase : Phase) (w : View) : Type 0 where
  pub made : List DueCall
  pub fault : Option DueCall
  pub rest : List DueCall
  pub some : 0 < length rest
  pub goes : GoesOn v (given_calls made fault) phase rest w
  pub faults : faults_between old new ≡ map disk_call (fault_list fault)
  pub are_made : AreMade old new v made

-- All that was left of the plan was made, from the slots on with or without the disk of the last call. Each disk in use is flushed behind
-- its last write, and shows the plan's uberblock, which is that of its group, in each of its four labels.
pub record EndsWell (old new : State) (v w : View) : Type 0 where
  pub made : List DueCall
  pub fault : Option DueCall
  pub ends : Ends v (given_calls made fault) w
  pub faults : faults_between old.store.disks new.store.disks ≡ map disk_call (fault_list fault)
  pub are_made : AreMade old.store.disks new.store.disks v made
  pub flushed : (disk : ℕ) → Contains (disks_in_use w) disk → IsFlushed new.store.disks disk
  pub root : Block
  pub is_root : new.kept.last.root ≡ Some root
  pub timestamp : ℕ
  pub planned : (plan : Planned) → old.planned ≡ Some plan → plan.uberblock ≡ uberblock_of new.stamp (suc v.committed) root timestamp
  pub shown : (write : SlotWrite) → Contains (disks_in_use w) write.disk → write.label < 4
      → ShowsIn new.store.disks (uberblock_of new.stamp (suc v.committed) root timestamp) write

-- The last of the calls that were made, a write or a flush of the plan, failed on this disk, and no other did. It was one before the slots, or
-- the pool lacks too many disks from then on.
pub record FailsAt (old new : Disks) (v : View) (disk : ℕ) : Type 0 where
  pub left : List DueCall
  pub made : List DueCall
  pub rest : List DueCall
  pub before : List DueCall
  pub call : DueCall
  pub on : call.disk ≡ disk
  pub planned : v.sync ≡ Due left
  pub last : made ≡ before ++ call ∷ []
  pub makes : Makes left made rest call.phase
  pub early : is_suspended (dropped v disk) ≡ false → is_late call.phase ≡ false
  pub fault : faults_between old new ≡ disk_call call ∷ []
  pub are_made : AreMade old new v made

-- From v the calls that were made, and no others, are calls of the plan, and nothing was read. Where one failed before the slots, or too many
-- disks are out, the plan is dropped; where none is left the group is committed.
abbrev pub Progresses : State → Progress → State → View → Type 0
Progresses old (Moved phase) new v = (w : View) × MovesOn old.store.disks new.store.disks v phase w × Backs new w
Progresses old Done new v = (w : View) × EndsWell old new v w × Backs new (committed_next w)
Progresses old (Dropped disk) new v = FailsAt old.store.disks new.store.disks v disk × Backs new (dropped v disk)

-- the state with this plan
abbrev pub with_plan : State → Planned → State
with_plan s plan = record s { planned = Some plan }

-- ---- what ends a step of device calls

-- no device was called, and of each plan this became of its blocks, and of the sectors that they fill
pub record EndsPlan (old new : Store) (marks : Marks) (of_blocks : Contents → Contents → Contents) : Type 0 where
  pub disks : new.disks ≡ old.disks
  pub out : new.out ≡ old.out
  pub stale : new.spans.stale ≡ old.spans.stale
  pub shapes : shapes_of new.spaces ≡ shapes_of old.spaces
  pub filled_by : HaveMarks old.spaces marks new.spaces filled
  pub plans : (stored planned : Contents) → Plans old stored planned → Plans new (of_blocks stored planned) (of_blocks stored planned)

-- the blocks of the plan are stored
abbrev pub StoresPlan : Store → Store → Type 0
StoresPlan old new = EndsPlan old new planned_marks (λ stored planned. planned)

-- the blocks of the plan are dropped: what was stored before is all that is
abbrev pub DropsPlan : Store → Store → Type 0
DropsPlan old new = EndsPlan old new filled (λ stored planned. stored)

-- one more group is committed
pub record IsShifted (old : Kept) (after : KeptGroup) (new : Kept) : Type 0 where
  pub committed : old.committed < 2 ^ 62 → new.committed ≡ suc old.committed
  pub last : new.last ≡ after
  pub before : new.before ≡ Some old.last
  pub earliest : new.earliest ≡ old.before

-- what is left of a plan, in number
abbrev pub calls_left : Store → Behind → ℕ
calls_left store behind = length store.due + (length behind.flushes.items + (length behind.slots.items + length behind.slot_flushes.items))

-- the plan's calls were made so far that these are left: it goes on; or nothing is left, and its group is committed
abbrev pub CarriesOn : State → Planned → Phase → Progress → State → Type 0
CarriesOn old plan phase (Moved moved) new = (moved ≡ phase) × (0 < calls_left old.store plan.behind) × (new ≡ record old { planned = Some plan })
CarriesOn old plan phase Done new =
    (calls_left old.store plan.behind ≡ 0) × StoresPlan old.store new.store × IsShifted old.kept plan.after new.kept × (new.planned ≡ None) × (new.stamp ≡ old.stamp)
CarriesOn old plan phase (Dropped disk) new = ⊥

-- A disk is out that failed: too many are, and the plan is dropped; or what is left of it on other disks carries on.
abbrev pub LeavesOut : State → Planned → ℕ → Phase → Progress → State → Type 0
LeavesOut old plan disk phase progress new =
    ((lacks_disks old.store ≡ true) × (progress ≡ Dropped disk) × DropsPlan old.store new.store × (new.kept ≡ old.kept) × (new.planned ≡ old.planned)
    × (new.stamp ≡ old.stamp))
    ⊎ ((lacks_disks old.store ≡ false) × (behind : Behind) × LeftOut disk plan.behind behind
    × CarriesOn old (record plan { behind = behind }) phase progress new)
