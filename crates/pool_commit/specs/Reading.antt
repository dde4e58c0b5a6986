-- Reads of a pool, and what they leave.
use Rattle.std.specs.Prelude.{ℕ, ◌≡◌, ◌++◌, ◌-◌, ◌<◌, ◌⊎◌, List, [], length, slice_get, Contains, Bool, Option, Some, None, ◌||◌, ◌==◌}
use Rattle.std.specs.List.{list_any}
use Rattle.raidz_io.specs.Reads.{OnlyReads, AreUntouched}
use Rattle.block_pointer.specs.declared.block.Block.{Block}
use Rattle.block_pointer.specs.declared.dva.Dva.{Dva}
use Rattle.block_pointer.specs.Copies.{dvas}
use Rattle.block_store.specs.declared.refusal.Refusal.{Refusal as StoreRefusal}
use Rattle.block_store.specs.Store.{Store, outs}
use Rattle.block_store.specs.Losses.{IsBlockLost}
use Rattle.block_store.specs.Steps.{AnswersTell}
use Rattle.dataset_snapshots.specs.Ranges.{IsRangeRefusedIn}
use Rattle.dnode_tree.specs.ReadRefusals.{IsForRead}
use Rattle.pool_model.specs.Pools.{Entry}
use Rattle.pool_model.specs.View.{View, Loss, Vdev, is_away, lost_in}
use Rattle.pool_model.specs.declared.refusal.Refusal.TheVariants as causes
use Rattle.pool_model.specs.declared.refusal.Refusal.{Refusal as Cause}
use Rattle.pool_model.specs.declared.step.Step.TheVariants.{ReadUnder}
use Rattle.pool_model.specs.Refusals.{refusal_of}
use Rattle.pool_commit.specs.declared.kept.KeptGroup.{KeptGroup}
use Rattle.pool_commit.specs.declared.refusal.Refusal.{Refusal}
use Rattle.pool_commit.specs.declared.refusal.Refusal.TheVariants.{DiskFault, BadPointer, BadDigest, NoSuchName, OutOfRange, GroupGone}
use Rattle.pool_commit.specs.Backs.{Backs}
use Rattle.pool_commit.specs.Calls.{unread_between}
use Rattle.pool_commit.specs.Causes.{of_store}
use Rattle.pool_commit.specs.Room.{IsPlanRefused}
use Rattle.pool_commit.specs.State.{State, group_at}

-- what the disks answered since tells what was written, with these disks missing beside those that are out
abbrev pub PoolAnswersTell : State → State → List ℕ → Type 0
PoolAnswersTell old new missing = AnswersTell old.store new.store missing

-- nothing was done but reads, none of them on a disk that is out or missing, and each view that was backed is backed
pub record OnlyReadsPool (old new : State) (missing : List ℕ) : Type 0 where
  pub rest : new ≡ record old { store = record old.store { disks = new.store.disks } }
  pub reads : OnlyReads old.store.disks new.store.disks
  pub untouched : AreUntouched (outs old.store ++ missing) old.store.disks new.store.disks
  pub backs : (v : View) → Backs old v → Backs new v

-- the disks that are missing for a read of a block that was born then: away, stale for it, named, or failing in the read
abbrev pub is_lost : View → List ℕ → List ℕ → ℕ → ℕ → Bool
is_lost v missing unread birth disk =
    is_away v disk || (v.stale disk birth || (list_any (λ d. d == disk) missing || list_any (λ d. d == disk) unread))

-- a block could not be read
abbrev pub IsReadFault : Refusal → Type 0
IsReadFault refusal = (refusal ≡ DiskFault) ⊎ ((refusal ≡ BadPointer) ⊎ (refusal ≡ BadDigest))

-- a block could not be read: for lack of disks, or as what they answered doesn't tell it
abbrev pub IsFaultIn : Store → Store → List ℕ → Refusal → Type 0
IsFaultIn old new missing refusal =
    (refusal ≡ DiskFault) ⊎ (((refusal ≡ BadPointer) ⊎ (refusal ≡ BadDigest)) × ¬ AnswersTell old new missing)

-- the vdev misses, for a block of that birth, more disks than it has parities
abbrev pub IsLostOn : View → List ℕ → State → State → Loss → Type 0
IsLostOn v missing old new loss =
    Contains v.vdevs loss.vdev
    × (loss.vdev.parity < lost_in (is_lost v missing (unread_between old.store.disks new.store.disks) loss.birth) loss.vdev.first loss.vdev.children)

-- the vdev of the block's last copy
pub record IsLastVdev (v : View) (block : Block) (vdev : Vdev) : Type 0 where
  pub place : Dva
  pub is_last : slice_get (dvas block.copies) (length (dvas block.copies) - 1) ≡ Some place
  pub is_there : slice_get v.vdevs place.vdev ≡ Some vdev

-- a block was read last since then, and can't be: this is the vdev of its last copy, and the group that it was born in
pub record LosesOn (v : View) (missing : List ℕ) (since new : Store) (loss : Loss) : Type 0 where
  pub lost : IsBlockLost since new missing
  pub last : IsLastVdev v lost.block loss.vdev
  pub birth : lost.block.birth ≡ loss.birth

-- Why a pool that is whole could not be read since then: of a block that was read last, the vdev of its last copy misses too many
-- disks for it; or what was read is no block of the pool, or has another digest, and then what the disks answered doesn't tell it.
abbrev pub IsLost : View → List ℕ → State → State → Store → Refusal → Type 0
IsLost v missing old new since DiskFault =
    (loss : Loss) × LosesOn v missing since new.store loss × IsLostOn v missing old new loss
IsLost v missing old new since BadPointer = ¬ PoolAnswersTell old new missing
IsLost v missing old new since BadDigest = ¬ PoolAnswersTell old new missing
IsLost v missing old new since refusal = ⊥

-- a range of the volume of that name was refused, as it is read by the group's root and the directory that is kept: that is the answer,
-- and neither room nor a block of the directory is the cause
pub record IsUnreadOf (old new : Store) (kept : KeptGroup) (birth : ℕ) (name : List ℕ) (offset len : ℕ) (missing : List ℕ)
    (refusal : Refusal) : Type 0 where
  pub root : Block
  pub is_root : kept.root ≡ Some root
  pub cause : StoreRefusal
  pub unread : IsRangeRefusedIn old new missing birth root kept.directory.value name offset len cause
  pub for_read : IsForRead cause
  pub answered : refusal ≡ of_store cause

-- so it is under a kept group
pub record IsUnreadUnder (old new : State) (group : ℕ) (name : List ℕ) (offset len : ℕ) (missing : List ℕ) (refusal : Refusal) : Type 0 where
  pub under : KeptGroup
  pub kept : group_at old.kept group ≡ Some under
  pub unread : IsUnreadOf old.store new.store under group name offset len missing refusal

-- so it is under a kept group, with no disk missing but those that are out, where there are bytes to be read
abbrev pub IsUnreadAt : State → State → ℕ → Option (List ℕ) → ℕ → ℕ → Refusal → Type 0
IsUnreadAt old new group None offset len refusal = ⊥
IsUnreadAt old new group (Some name) offset len refusal = IsUnreadUnder old new group name offset len [] refusal

-- since a plan was begun the root after the items was refused: that is the answer
pub record IsUnreadForPlan (old new : State) (items : Entry) (refusal : Refusal) : Type 0 where
  pub cause : StoreRefusal
  pub refused : IsPlanRefused old new.store items cause
  pub answered : refusal ≡ of_store cause

-- there is such a refusal, and this is why
pub record IsLostUnder (v : View) (old new : State) (group : ℕ) (name : List ℕ) (offset len : ℕ) (missing : List ℕ) (refusal : Refusal) : Type 0 where
  pub unread : IsUnreadUnder old new group name offset len missing refusal
  pub lost : IsLost v missing old new old.store refusal

-- so it is of the committed group, where there are bytes to be read
abbrev pub IsLostAt : View → State → State → Option (List ℕ) → ℕ → ℕ → Refusal → Type 0
IsLostAt v old new None offset len refusal = ⊥
IsLostAt v old new (Some name) offset len refusal = IsLostUnder v old new v.committed name offset len [] refusal

-- the root after the items was refused as a block couldn't be read, and this is why
pub record IsLostForPlan (v : View) (old new : State) (items : Entry) (refusal : Refusal) : Type 0 where
  pub unread : IsUnreadForPlan old new items refusal
  pub lost : IsLost v [] old new unread.refused.begun refusal

-- the view has no cause against the read
abbrev pub HasNoCause : View → ℕ → List ℕ → ℕ → ℕ → Type 0
HasNoCause v group name offset len = refusal_of v (ReadUnder group name offset len) ≡ None

-- the cause that a volume's shape has against a read
abbrev pub IsReadCause : Option Cause → Refusal → Type 0
IsReadCause cause NoSuchName = cause ≡ Some causes.NoSuchName
IsReadCause cause OutOfRange = cause ≡ Some causes.OutOfRange
IsReadCause cause refusal = ⊥

-- the first cause that the view has against the read
abbrev pub IsUnderCause : View → ℕ → List ℕ → ℕ → ℕ → Refusal → Type 0
IsUnderCause v group name offset len NoSuchName = refusal_of v (ReadUnder group name offset len) ≡ Some causes.NoSuchName
IsUnderCause v group name offset len OutOfRange = refusal_of v (ReadUnder group name offset len) ≡ Some causes.OutOfRange
IsUnderCause v group name offset len GroupGone = refusal_of v (ReadUnder group name offset len) ≡ Some causes.GroupGone
IsUnderCause v group name offset len refusal = ⊥
