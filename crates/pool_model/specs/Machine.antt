-- The machine: what each step is answered, and what it changes. What becomes of groups, holds and items is said in Flow.
use Rattle.std.specs.Prelude.{◌≡◌, ◌⊎◌, ℕ, suc, ◌+◌, ◌≤◌, ◌<◌, List, [], ◌∷◌, ◌++◌, length, map, slice_range, Contains, Bool, true, false, IsTrue, Some, None, filter, flat_map, replicate, not, IsPermutation, nat_le, ◌==◌, ◌&&◌, ◌||◌, if◌then◌else◌}
use Rattle.std.specs.List.{AllByRecursion, list_all}
use Rattle.pool_model.specs.declared.step.Phase.{Phase}
use Rattle.pool_model.specs.declared.step.Phase.TheVariants.{Blocks, BlocksFlush, Slots, SlotsFlush}
use Rattle.pool_model.specs.declared.step.Step.{Step}
use Rattle.pool_model.specs.declared.step.Step.TheVariants.{Hold, Write as WriteStep, Act, Release, Close, Quiesce, Plan, Device, DiskOut, Read, ReadUnder}
use Rattle.pool_model.specs.declared.step.Reply.{Reply}
use Rattle.pool_model.specs.declared.step.Reply.TheVariants.{Held, Receipt, Released, Closed, Quiesced, Planned, Moved, Replan, Committed, Out, Bytes, Refused}
use Rattle.pool_model.specs.declared.refusal.Refusal.{Refusal}
use Rattle.pool_model.specs.declared.refusal.Refusal.TheVariants.{NoMemory, DiskFault, NoSpace, Suspended, BadPointer, BadDigest, BadMap}
use Rattle.pool_model.specs.declared.volume.PlainVolume.{PlainVolume}
use Rattle.pool_model.specs.Pools.{PlainPool, volume_at, applied}
use Rattle.pool_model.specs.View.{View, Loss, Given, DueCall, Sync, Idle, Unplanned, Due, now_of, is_suspended, is_missing, lost_in, counted, disks_in_use}
use Rattle.pool_model.specs.Refusals.{refusal_of, takes_memory}
use Rattle.pool_model.specs.Flow.{Flow, flow_of, with_taken, with_committed, FlowStep}

-- ---- phases

-- phases follow one another
abbrev pub rank : Phase → ℕ
rank Blocks = 0
rank BlocksFlush = 1
rank Slots = 2
rank SlotsFlush = 3

-- from the slots on
abbrev pub is_late : Phase → Bool
is_late phase = nat_le (rank Slots) (rank phase)

-- of a plan nothing is left before the slots
abbrev pub is_late_sync : Sync → Bool
is_late_sync Idle = false
is_late_sync Unplanned = false
is_late_sync (Due calls) = list_all (λ call. is_late call.phase) calls

-- ---- what a step changes

-- the view with these groups, holds and items. Its sync stays: a flow knows no plans.
abbrev pub with_flow : View → Flow → View
with_flow v f = record v { committed = f.committed; waiting = f.waiting; holds = f.holds; next = f.next; ledger = f.ledger }

-- groups, holds and items go on as FlowStep says of the step and its reply, and nothing else changes
abbrev pub OnlyFlows : View → Step → Reply → View → Type 0
OnlyFlows v step reply w = FlowStep (flow_of v) step reply (flow_of w) × (w ≡ with_flow v (flow_of w))

-- the group after the committed one is taken to be synced, as far as this
abbrev pub taken : View → Sync → View
taken v sync = record (with_flow v (with_taken (flow_of v))) { sync = sync }

-- without its plan, where it has one
abbrev pub without_plan : Sync → Sync
without_plan Idle = Idle
without_plan Unplanned = Unplanned
without_plan (Due calls) = Unplanned

-- a disk is out too
abbrev pub without_disk : View → ℕ → View
without_disk v disk = record v { out = λ d. (d == disk) || v.out d }

-- a disk is out, and where there is a plan it is dropped
abbrev pub dropped : View → ℕ → View
dropped v disk = record (without_disk v disk) { sync = without_plan v.sync }

-- what is left of a plan on other disks
abbrev pub calls_without : Sync → ℕ → Sync
calls_without Idle disk = Idle
calls_without Unplanned disk = Unplanned
calls_without (Due calls) disk = Due (filter (λ call. not (call.disk == disk)) calls)

-- a disk is taken out: where something is left of a plan before the slots it is dropped, and from the slots on it goes on without the disk
abbrev pub gone_out : View → ℕ → View
gone_out v disk = if is_late_sync v.sync then record (without_disk v disk) { sync = calls_without v.sync disk } else dropped v disk

-- the group after the committed one is committed: what it accepted has taken effect
abbrev pub committed_next : View → View
committed_next v = record (with_flow v (with_committed (flow_of v))) {
  sync = Idle;
  pools = λ g. if g == suc v.committed then applied g (v.pools v.committed) (v.ledger g) else v.pools g;
}

-- ---- plans and device calls

-- the write of blocks that has this number on the disk
abbrev pub due_write : ℕ → ℕ → DueCall
due_write disk number = record { disk = disk; phase = Blocks; number = number }

-- the disk's flush behind the blocks
abbrev pub due_flush : ℕ → DueCall
due_flush disk = record { disk = disk; phase = BlocksFlush; number = 0 }

-- whether a call is of that phase
abbrev pub in_phase : Phase → DueCall → Bool
in_phase phase call = rank call.phase == rank phase

-- whether a call is a flush, behind the blocks or behind the slots; if not, it is a write
abbrev pub is_flush : DueCall → Bool
is_flush call = in_phase BlocksFlush call || in_phase SlotsFlush call

-- the numbers of the writes to a disk
abbrev pub numbers_on : ℕ → List DueCall → List ℕ
numbers_on disk calls = map (λ call. call.number) (filter (λ call. not (is_flush call) && (call.disk == disk)) calls)

-- the disks that are called in a phase, one for each call
abbrev pub disks_called : Phase → List DueCall → List ℕ
disks_called phase calls = map (λ call. call.disk) (filter (in_phase phase) calls)

-- where commits end in slots a commit writes one in each of the four labels of each disk in use, and then flushes these disks
abbrev pub disks_with_slots : View → List ℕ
disks_with_slots v = if v.slots then disks_in_use v else []

-- a plan: calls of disks in use, the writes to each disk numbered from 0 on, those of slots behind those of blocks
pub record IsPlan (v : View) (calls : List DueCall) : Type 0 where
  pub in_use : AllByRecursion (λ call. Contains (disks_in_use v) call.disk) calls
  pub numbered : (disk : ℕ) → IsPermutation (numbers_on disk calls) (counted 0 (length (numbers_on disk calls)))
  pub behind : (block slot : DueCall) → Contains calls block → Contains calls slot → block.phase ≡ Blocks → slot.phase ≡ Slots → block.disk ≡ slot.disk → block.number < slot.number
  -- one flush behind the blocks, and with slots four writes of slots and one flush behind these
  pub flushes : IsPermutation (disks_called BlocksFlush calls) (disks_in_use v)
  pub slots : IsPermutation (disks_called Slots calls) (flat_map (λ disk. replicate 4 disk) (disks_with_slots v))
  pub slot_flushes : IsPermutation (disks_called SlotsFlush calls) (disks_with_slots v)

-- one to four calls of those left, in one phase, and none of an earlier phase was left
pub record Makes (left made rest : List DueCall) (phase : Phase) : Type 0 where
  pub parts : IsPermutation left (made ++ rest)
  pub some : 0 < length made
  pub few : length made ≤ 4
  pub same : AllByRecursion (λ call. call.phase ≡ phase) made
  pub next : AllByRecursion (λ call. rank phase ≤ rank call.phase) left

-- all that is left, if anything is
abbrev pub MakesAll : List DueCall → List DueCall → Type 0
MakesAll left made = ((left ≡ []) × (made ≡ [])) ⊎ ((phase : Phase) × Makes left made [] phase)

-- a write or flush of the plan failed on this disk: the last call that the step made
pub record FailsOn (v : View) (given : Given) (disk : ℕ) : Type 0 where
  pub left : List DueCall
  pub rest : List DueCall
  pub before : List DueCall
  pub call : DueCall
  pub on : call.disk ≡ disk
  pub planned : v.sync ≡ Due left
  pub last : given.made ≡ before ++ call ∷ []
  pub makes : Makes left given.made rest call.phase
  pub fault : given.fault ≡ Some call

-- calls of a plan were made and none failed: these are left
pub record GoesWell (v : View) (given : Given) (phase : Phase) (rest : List DueCall) (w : View) : Type 0 where
  pub left : List DueCall
  pub planned : v.sync ≡ Due left
  pub makes : Makes left given.made rest phase
  pub fault : given.fault ≡ None
  pub after : w ≡ record v { sync = Due rest }

-- From the slots on one failed: its disk is out, and what was left on it is left no more. No vdev has more disks out than
-- it has parities.
pub record GoesWithout (v : View) (given : Given) (phase : Phase) (rest : List DueCall) (w : View) : Type 0 where
  pub disk : ℕ
  pub fails : FailsOn v given disk
  pub last : phase ≡ fails.call.phase
  pub late : is_late phase ≡ true
  pub others : rest ≡ filter (λ call. not (call.disk == disk)) fails.rest
  pub after : w ≡ record (without_disk v disk) { sync = Due rest }
  pub enough : is_suspended w ≡ false

-- a commit goes on, with or without the disk of its last call: of its plan these calls are left
abbrev pub GoesOn : View → Given → Phase → List DueCall → View → Type 0
GoesOn v given phase rest w = GoesWell v given phase rest w ⊎ GoesWithout v given phase rest w

-- all that was left of a plan was made, and none failed
pub record IsDone (v : View) (given : Given) : Type 0 where
  pub left : List DueCall
  pub planned : v.sync ≡ Due left
  pub makes : MakesAll left given.made
  pub fault : given.fault ≡ None

-- a commit is done, with or without the disk of its last call: of its plan no call is left
abbrev pub Ends : View → Given → View → Type 0
Ends v given w = (IsDone v given × (w ≡ v)) ⊎ ((phase : Phase) × GoesWithout v given phase [] w)

-- nothing was written or flushed
pub record IsQuiet (given : Given) : Type 0 where
  pub made : given.made ≡ []
  pub fault : given.fault ≡ None

-- only a Device step writes and flushes, and it reads nothing; only a plan and the reads read
abbrev pub MayCall : Step → Given → Type 0
MayCall Device given = given.unread ≡ []
MayCall (Plan timestamp) given = IsQuiet given
MayCall (Read name offset len) given = IsQuiet given
MayCall (ReadUnder group name offset len) given = IsQuiet given
MayCall step given = IsQuiet given × (given.unread ≡ [])

-- ---- replies

-- these bytes are the range of that volume in the pool
abbrev pub AreBytesOf : PlainPool → List ℕ → ℕ → ℕ → List ℕ → Type 0
AreBytesOf pool name offset len bytes = (volume : PlainVolume) × (volume_at name pool ≡ Some volume) × (bytes ≡ slice_range volume.bytes offset (offset + len))

-- the causes that only reading has
abbrev pub IsReadCause : Refusal → Type 0
IsReadCause cause = (cause ≡ DiskFault) ⊎ ((cause ≡ BadPointer) ⊎ ((cause ≡ BadDigest) ⊎ (cause ≡ BadMap)))

-- in this step the vdev misses, for a block of that birth, more disks than it has parities
pub record MissesTooMany (v : View) (given : Given) (loss : Loss) : Type 0 where
  pub there : Contains v.vdevs loss.vdev
  pub more : loss.vdev.parity < lost_in (is_missing v given loss.birth) loss.vdev.first loss.vdev.children

-- A block that had to be read can't be: the vdev of its last copy misses too many disks for it; or the block is not what its
-- pointer tells, which is never so where the disks answer truly.
abbrev pub IsUnreadable : View → Given → Refusal → Type 0
IsUnreadable v given DiskFault = (loss : Loss) × (given.lost ≡ Some loss) × MissesTooMany v given loss
IsUnreadable v given BadPointer = given.trusted ≡ false
IsUnreadable v given BadDigest = given.trusted ≡ false
IsUnreadable v given BadMap = given.trusted ≡ false
IsUnreadable v given cause = ⊥

-- what a step against which the view has nothing may be answered, and what it then changes
abbrev pub MayAnswer : View → Given → Step → Reply → View → Type 0
MayAnswer v given (Hold writer) (Held group) w = OnlyFlows v (Hold writer) (Held group) w
MayAnswer v given (WriteStep x) (Receipt group) w = OnlyFlows v (WriteStep x) (Receipt group) w
MayAnswer v given (Act a) (Receipt group) w = OnlyFlows v (Act a) (Receipt group) w
MayAnswer v given (Release writer) Released w = OnlyFlows v (Release writer) Released w
MayAnswer v given Close (Closed group) w = OnlyFlows v Close (Closed group) w
MayAnswer v given Quiesce (Quiesced group) w = OnlyFlows v Quiesce (Quiesced group) w
MayAnswer v given (Plan timestamp) (Planned group) w = FlowStep (flow_of v) (Plan timestamp) (Planned group) (flow_of w) × (calls : List DueCall) × IsPlan v calls × (w ≡ taken v (Due calls))
MayAnswer v given (Plan timestamp) (Refused cause) w = (IsUnreadable v given cause ⊎ ((cause ≡ NoSpace) × (given.full ≡ true))) × (w ≡ taken v Unplanned)
MayAnswer v given Device (Moved phase) w = (rest : List DueCall) × (0 < length rest) × GoesOn v given phase rest w
MayAnswer v given Device (Committed group) w = FlowStep (flow_of v) Device (Committed group) (flow_of w) × (done : View) × Ends v given done × (w ≡ committed_next done)
MayAnswer v given Device (Replan disk) w = (fails : FailsOn v given disk) × (is_late fails.call.phase ≡ false) × (is_suspended (dropped v disk) ≡ false) × (w ≡ dropped v disk)
MayAnswer v given Device (Refused cause) w = (cause ≡ Suspended) × (disk : ℕ) × FailsOn v given disk × (is_suspended (dropped v disk) ≡ true) × (w ≡ dropped v disk)
MayAnswer v given (DiskOut disk) Out w = w ≡ gone_out v disk
MayAnswer v given (Read name offset len) (Bytes bytes) w = (given.trusted ≡ true → AreBytesOf (now_of v) name offset len bytes) × (w ≡ v)
MayAnswer v given (Read name offset len) (Refused cause) w = IsUnreadable v given cause × (w ≡ v)
MayAnswer v given (ReadUnder group name offset len) (Bytes bytes) w = (given.trusted ≡ true → AreBytesOf (v.pools group) name offset len bytes) × (w ≡ v)
MayAnswer v given (ReadUnder group name offset len) (Refused cause) w = IsUnreadable v given cause × (w ≡ v)
MayAnswer v given step reply w = ⊥

-- memory may run out in a step that takes some; in a plan, only where the view has nothing against it
abbrev pub MayLack : View → Step → Type 0
MayLack v (Plan timestamp) = refusal_of v (Plan timestamp) ≡ None
MayLack v step = IsTrue (takes_memory step)

-- what is left where memory ran out: a group that was to be planned is taken, and has no plan
abbrev pub without_memory : View → Step → View
without_memory v (Plan timestamp) = taken v Unplanned
without_memory v step = v

-- the step is refused for its first cause: it writes nothing, and changes nothing
pub record IsRefused (v : View) (given : Given) (step : Step) (reply : Reply) (w : View) : Type 0 where
  pub cause : Refusal
  pub first : refusal_of v step ≡ Some cause
  pub answer : reply ≡ Refused cause
  pub unchanged : w ≡ v
  pub quiet : IsQuiet given
  pub calls : MayCall step given

-- the step is refused since memory ran out: only a plan changes something, as without_memory says
pub record LacksMemory (v : View) (given : Given) (step : Step) (reply : Reply) (w : View) : Type 0 where
  pub may : MayLack v step
  pub answer : reply ≡ Refused NoMemory
  pub leaves : w ≡ without_memory v step
  pub calls : MayCall step given

-- nothing that the view tells speaks against the step
pub record IsAnswered (v : View) (given : Given) (step : Step) (reply : Reply) (w : View) : Type 0 where
  pub none : refusal_of v step ≡ None
  pub answered : MayAnswer v given step reply w
  pub calls : MayCall step given

-- from v, with this given, the machine may answer the step so, and go on to w
abbrev pub StepOf : View → Given → Step → Reply → View → Type 0
StepOf v given step reply w = IsRefused v given step reply w ⊎ (LacksMemory v given step reply w ⊎ IsAnswered v given step reply w)

-- the machine may give these replies to these steps, one after another
abbrev pub Run : View → List Step → List Given → List Reply → View → Type 0
Run v [] [] [] w = w ≡ v
Run v (step ∷ steps) (given ∷ givens) (reply ∷ replies) w = (mid : View) × StepOf v given step reply mid × Run mid steps givens replies w
Run v steps givens replies w = ⊥
