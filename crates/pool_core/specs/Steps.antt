-- What a step of a core is.
use Rattle.std.specs.Prelude.{ℕ, suc, [], ◌≡◌, ◌<◌, Contains, map, Bool, true, false, Some}
use Rattle.block_pointer.specs.declared.block.Block.{Block}
use Rattle.block_store.specs.Steps.{AnswersTell, StaysLost}
use Rattle.model_disk.specs.Joint.{Disks, calls_on}
use Rattle.raidz_io.specs.Reads.{OnlyReads}
use Rattle.pool_model.specs.declared.step.Step.{Step}
use Rattle.pool_model.specs.declared.step.Step.TheVariants.{Plan, Device, DiskOut, Release, Read, ReadUnder}
use Rattle.pool_model.specs.declared.step.Reply.{Reply}
use Rattle.pool_model.specs.declared.step.Reply.TheVariants.{Planned, Committed}
use Rattle.pool_model.specs.View.{View, Loss, Given, is_away, disks_in_use, is_suspended}
use Rattle.pool_model.specs.Machine.{StepOf}
use Rattle.pool_commit.specs.Calls.{GrewTo, disk_call, made_between, faults_between, unread_between, called_between, IsFlushed}
use Rattle.pool_commit.specs.Progress.{fault_list}
use Rattle.pool_commit.specs.declared.kept.Planned.{Planned as GroupPlan}
use Rattle.disk_set.specs.declared.behind.SlotWrite.{SlotWrite}
use Rattle.pool_commit.specs.Slots.{ShowsIn, uberblock_of}
use Rattle.pool_commit.specs.Room.{LacksRoom}
use Rattle.volume_rules.specs.Sources.{base_name}
use Rattle.pool_core.specs.Reading.{LosesAt, LosesUnder, LosesForPlan}
use Rattle.pool_core.specs.State.{CoreState, disks_of}
use Rattle.pool_core.specs.Represents.{Represents}

-- the second state came from the first by steps: calls were added to the record, and what was lost is still lost
pub record CameFrom (old new : CoreState) : Type 0 where
  pub grew : GrewTo (disks_of old) (disks_of new)
  pub lost : StaysLost old.commit.store new.commit.store

-- between the two states there is a part in which disks were only read
pub record IsReadWithin (old new from to : Disks) : Type 0 where
  pub before : GrewTo old from
  pub reads : OnlyReads from to
  pub after : GrewTo to new

-- in each part in which disks were only read, what they answered tells what was written, with all that is lost by the second state
abbrev pub AnswersTellThroughout : CoreState → CoreState → Type 0
AnswersTellThroughout old new =
    (from to : Disks) → IsReadWithin (disks_of old) (disks_of new) from to
    → AnswersTell (record new.commit.store { disks = from }) (record new.commit.store { disks = to }) []

-- the steps that a suspended pool refuses
abbrev pub is_barred : Step → Bool
is_barred (Release writer) = false
is_barred (DiskOut disk) = false
is_barred (Read name offset len) = false
is_barred (ReadUnder group name offset len) = false
is_barred step = true

-- a block that the step had to read could not be: this is the vdev of its last copy, and the group that it was born in
abbrev pub LosesBlock : CoreState → View → Step → CoreState → Loss → Type 0
LosesBlock old v (Read name offset len) new loss = LosesAt v old.commit new.commit (base_name v name) offset len loss
LosesBlock old v (ReadUnder group name offset len) new loss = LosesUnder v old.commit new.commit group name offset len loss
LosesBlock old v (Plan timestamp) new loss = LosesForPlan v old.commit new.commit (v.ledger (suc v.committed)) loss
LosesBlock old v step new loss = ⊥

-- there is no room for a block of the group that is to be planned, behind others of its own blocks and nothing else
abbrev pub FindsNoRoom : CoreState → View → Step → Type 0
FindsNoRoom old v (Plan timestamp) = LacksRoom old.commit (v.ledger (suc v.committed))
FindsNoRoom old v step = ⊥

-- What was given to a step: its own writes and flushes, in order; the one that failed, if any; the disks of its reads that
-- failed; the block that could not be read; and that it found no room.
pub record IsGiven (old : CoreState) (v : View) (step : Step) (new : CoreState) (given : Given) : Type 0 where
  pub made : map disk_call given.made ≡ made_between (disks_of old) (disks_of new)
  pub fault : map disk_call (fault_list given.fault) ≡ faults_between (disks_of old) (disks_of new)
  pub unread : given.unread ≡ unread_between (disks_of old) (disks_of new)
  pub lost : (loss : Loss) → given.lost ≡ Some loss → LosesBlock old v step new loss
  pub full : given.full ≡ true → FindsNoRoom old v step

-- where a group is committed, each disk in use was flushed behind its last write
abbrev pub AreFlushed : Reply → View → CoreState → Type 0
AreFlushed (Committed group) w new = (disk : ℕ) → Contains (disks_in_use w) disk → IsFlushed (disks_of new) disk
AreFlushed reply w new = Unit {0}

-- and its uberblock, which was planned, stands in each of the four labels of these disks
abbrev pub ShowsGroup : Reply → CoreState → View → CoreState → Type 0
ShowsGroup (Committed group) old w new = (root : Block) × (new.commit.kept.last.root ≡ Some root) × (timestamp : ℕ)
    × ((plan : GroupPlan) → old.commit.planned ≡ Some plan → plan.uberblock ≡ uberblock_of new.commit.stamp group root timestamp)
    × ((write : SlotWrite) → Contains (disks_in_use w) write.disk → write.label < 4
    → ShowsIn (disks_of new) (uberblock_of new.commit.stamp group root timestamp) write)
ShowsGroup reply old w new = Unit {0}

-- no disk that is away is called
abbrev pub AwayIsUntouched : CoreState → View → CoreState → Type 0
AwayIsUntouched old v new = (disk : ℕ) → is_away v disk ≡ true → calls_on disk (disks_of new).calls ≡ calls_on disk (disks_of old).calls

-- no disk is called but by the writes and flushes that are made; so a Device step reads nothing
abbrev pub OnlyWritesAndFlushes : Step → CoreState → Given → CoreState → Type 0
OnlyWritesAndFlushes Device old given new = called_between (disks_of old) (disks_of new) ≡ map (λ call. call.disk) given.made
OnlyWritesAndFlushes step old given new = Unit {0}

-- from core state and view: the step and its reply lead to this core state and this view
pub record Link (old : CoreState) (v : View) (step : Step) (given : Given) (reply : Reply) (new : CoreState) (w : View) : Type 0 where
  pub is_given : IsGiven old v step new given
  pub is_step : StepOf v given step reply w
  pub represents : Represents new w
  pub flushed : AreFlushed reply w new
  pub shown : ShowsGroup reply old w new
  pub untouched : AwayIsUntouched old v new
  pub only : OnlyWritesAndFlushes step old given new

-- so it is with some given, which is trusted where the answers of the disks are known to tell what was written
pub record Goes (old : CoreState) (v : View) (trusted : Bool) (step : Step) (reply : Reply) (new : CoreState) : Type 0 where
  pub given : Given
  pub trust : trusted ≡ true → given.trusted ≡ true
  pub after : View
  pub link : Link old v step given reply new after

-- a plan was made: what it reads goes into what it writes
abbrev pub IsPlanned : Reply → Type 0
IsPlanned (Planned group) = Unit {0}
IsPlanned reply = ⊥

-- So it is from each view that old represents, whether or not the answers are known to tell; only a plan that is made
-- asks for that.
abbrev pub TakesStep : CoreState → Step → Reply → CoreState → Type 0
TakesStep old step reply new = (v : View) (trusted : Bool) → Represents old v → (trusted ≡ true → AnswersTellThroughout old new)
    → (IsPlanned reply → trusted ≡ true) → Goes old v trusted step reply new

-- the same of a pool that is not suspended
abbrev pub TakesStepUnlessSuspended : CoreState → Step → Reply → CoreState → Type 0
TakesStepUnlessSuspended old step reply new = (v : View) (trusted : Bool) → Represents old v → is_suspended v ≡ false → (trusted ≡ true → AnswersTellThroughout old new)
    → (IsPlanned reply → trusted ≡ true) → Goes old v trusted step reply new
