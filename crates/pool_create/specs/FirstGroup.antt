-- The first group of a pool.
use Rattle.std.specs.Prelude.{ℕ, ◌≡◌, ◌⊎◌, ◌≤◌, ◌↔◌, IsTrue, List, [], ◌∷◌, length, replicate, Bool, true, false, Some, None, if◌then◌else◌}
use Rattle.std.specs.List.{list_any}
use Rattle.block_pointer.specs.declared.block.Block.{Block}
use Rattle.block_store.specs.Blocks.{Contents}
use Rattle.block_store.specs.Places.{shapes_of}
use Rattle.block_store.specs.Store.{is_out}
use Rattle.model_disk.specs.Joint.{Disks}
use Rattle.pool_open.specs.Mapped.{SpellsWithMaps}
use Rattle.pool_open.specs.Calls.{GrewTo}
use Rattle.pool_open.specs.Reopened.{IsConfiguredUnder}
use Rattle.pool_open.specs.CommitState.{NoneIsOut}
use Rattle.pool_open.specs.Spans.{HaveNoSpans}
use Rattle.pool_open.specs.Represents.{Represents}
use Rattle.pool_open.specs.CoreRuns.{Ran}
use Rattle.pool_open.specs.CoreState.{CoreState, disks_of}
use Rattle.pool_model.specs.Groups.{commits}
use Rattle.pool_model.specs.Pools.{no_volumes}
use Rattle.pool_model.specs.View.{View, none_stale, opened_as}
use Rattle.pool_model.specs.declared.refusal.Refusal.TheVariants as cause
use Rattle.pool_model.specs.declared.step.Reply.{Reply}
use Rattle.pool_model.specs.declared.step.Reply.TheVariants.{Refused}
use Rattle.pool_model.specs.declared.step.Step.{Step}
use Rattle.pool_model.specs.declared.step.Step.TheVariants.{Close, Quiesce, Plan, Device}
use Rattle.pool_open.specs.Held.{HoldOver}
use Rattle.pool_open.specs.Words.{vdevs_in}
use Rattle.pool_open.specs.declared.refusal.Refusal.{Refusal}
use Rattle.pool_open.specs.declared.refusal.Refusal.TheVariants.{NoMemory, DiskFault, NoSpace}
use Rattle.pool_slots.specs.Failures.{HasFailedOn}
use Rattle.pool_slots.specs.Opens.{AreKnown}
use Rattle.raidz_io.specs.Reads.{IsHonestSince}
use Rattle.pool_create.specs.declared.planning.NewPool.{NewPool}

-- the open group is closed, quiesced, planned and written, by so many device steps
abbrev pub AreStepsWith : ℕ → List Step → Type 0
AreStepsWith count steps = steps ≡ Close ∷ Quiesce ∷ Plan 0 ∷ replicate count Device

-- by 4,096 of them at least
abbrev pub AreFirstSteps : List Step → Type 0
AreFirstSteps steps = (count : ℕ) × (4096 ≤ count) × AreStepsWith count steps

-- the machine took them from there
pub record RanFirst (old new : CoreState) (replies : List Reply) : Type 0 where
  pub steps : List Step
  pub are : AreFirstSteps steps
  pub ran : Ran old steps [] new replies

-- no volumes are committed as group 2, of which nothing is on the disks, and none of them is out
abbrev pub in_front : NewPool → View
in_front it = opened_as (vdevs_in it.shapes.items) (is_out it.out.items) none_stale 2 no_volumes

-- the core that the first group is committed by
pub record IsInFront (disks : Disks) (it : NewPool) (core : CoreState) : Type 0 where
  pub disks_are : disks_of core ≡ disks
  pub stamp_is : core.commit.stamp ≡ it.stamp
  pub represents : Represents core (in_front it)
  pub untouched : HaveNoSpans core.commit

-- one group was committed, no disk went out, and the vdevs are what they were
abbrev pub IsDone : NewPool → CoreState → List Reply → Type 0
IsDone it new replies = (length (commits replies) ≡ 1) × NoneIsOut new.commit × (shapes_of new.commit.store.spaces ≡ it.shapes.items)

-- so it is, and there is a root
pub record IsCommitted (it : NewPool) (old new : CoreState) (root : Block) : Type 0 where
  pub replies : List Reply
  pub ran : RanFirst old new replies
  pub done : IsDone it new replies
  pub root_is : new.commit.kept.last.root ≡ Some root

-- a step was refused for want of room
abbrev pub says_no_space : Reply → Bool
says_no_space (Refused cause.NoSpace) = true
says_no_space reply = false

-- a step was refused for want of memory
abbrev pub says_no_memory : Reply → Bool
says_no_memory (Refused cause.NoMemory) = true
says_no_memory reply = false

-- what it is put down to where the group isn't committed: no room, or no memory, where a reply says so; else disks, where one is out; else memory
abbrev pub cause_in : List Reply → Bool → Refusal
cause_in replies whole = if list_any says_no_space replies then NoSpace else (if list_any says_no_memory replies then NoMemory else (if whole then NoMemory else DiskFault))

-- where all answers were true, a call on one of them failed
abbrev pub HasFaultIfTrue : Disks → Disks → Type 0
HasFaultIfTrue old new = IsHonestSince old new → (which : ℕ) × HasFailedOn old new which

-- The machine took the first steps, and the group isn't committed on all disks. It is put down to disks only where a call on one failed.
pub record IsUnfinished (it : NewPool) (old new : CoreState) (refusal : Refusal) : Type 0 where
  pub replies : List Reply
  pub ran : RanFirst old new replies
  pub uncommitted : (¬ IsDone it new replies) ⊎ (new.commit.kept.last.root ≡ None)
  pub whole : Bool
  pub is_whole : IsTrue whole ↔ NoneIsOut new.commit
  pub cause_is : refusal ≡ cause_in replies whole

-- where all answers were true, the disks have the blocks of a root that spells no volumes, and has its space maps, no stale spans, and the
-- configuration that the pool's uberblocks name
abbrev pub SpellsNone : Disks → NewPool → Disks → Block → Type 0
SpellsNone old it new root =
    IsHonestSince old new → (stored : Contents) × HoldOver new it.shapes.items it.out.items [] stored
    × (spells : SpellsWithMaps stored it.shapes.items 3 root no_volumes) × (spells.0.stale ≡ []) × IsConfiguredUnder it.stamp stored 3 root no_volumes

-- bytes of disks that were known are so still, where all answers were true
abbrev pub KeepsKnown : Disks → NewPool → Disks → Type 0
KeepsKnown old it new = IsHonestSince old new → AreKnown it.out.items old → AreKnown it.out.items new

-- a core over the first disks committed the group with this root
pub record IsCommittedOn (old : Disks) (it : NewPool) (new : Disks) (root : Block) : Type 0 where
  pub before : CoreState
  pub in_front_of : IsInFront old it before
  pub after : CoreState
  pub done : IsCommitted it before after root
  pub disks_are : new ≡ disks_of after

-- the first group is on the disks
pub record HasFirstGroup (old : Disks) (it : NewPool) (new : Disks) (root : Block) : Type 0 where
  pub grew : GrewTo old new
  pub committed : IsCommittedOn old it new root
  pub known : KeepsKnown old it new
  pub spells : SpellsNone old it new root

-- There is none, from disks that a core of a pool in front of it was made over, and that are these now.
pub record LacksFirstGroup (old : Disks) (it : NewPool) (new : Disks) (refusal : Refusal) : Type 0 where
  pub before : CoreState
  pub in_front_of : IsInFront old it before
  pub after : CoreState
  pub why : IsUnfinished it before after refusal
  pub disks_are : new ≡ disks_of after
  pub failed : refusal ≡ DiskFault → HasFaultIfTrue old new
