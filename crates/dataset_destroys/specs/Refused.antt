-- Why a dataset is not destroyed.
use Rattle.std.specs.Prelude.{ℕ, ◌≡◌, ◌≢◌, ◌⊎◌, [], Option}
use Rattle.block_store.specs.Steps.{OnlyReadsBlocks}
use Rattle.block_store.specs.Store.{Store}
use Rattle.block_store.specs.declared.refusal.Refusal.{Refusal}
use Rattle.block_store.specs.declared.refusal.Refusal.TheVariants.{BadPointer}
use Rattle.dataset_chains.specs.Refused.{HasKnown, IsChainRefused}
use Rattle.dataset_chains.specs.States.{IsNumber}
use Rattle.dataset_chains.specs.DatasetChanges.{DatasetChanges}
use Rattle.dataset_destroys.specs.Steps.{IsKnownBefore, group_of}
use Rattle.dataset_destroys.specs.Younger.{IsTreeRefused}
use Rattle.meta_objset.specs.declared.record.DatasetKind.TheVariants as kinds
use Rattle.meta_objset.specs.declared.record.DatasetRecord.{DatasetRecord}

-- ---- snapshots

-- the snapshot has clones
abbrev pub HasClones : DatasetChanges → ℕ → Refusal → Type 0
HasClones changes snapshot refusal =
    (refusal ≡ BadPointer) × ((r : DatasetRecord) × HasKnown changes snapshot r × (r.clones ≢ 0))

-- what comes after the snapshot doesn't name it as the one before
abbrev pub IsUnlinked : DatasetChanges → ℕ → Refusal → Type 0
IsUnlinked changes snapshot refusal =
    (refusal ≡ BadPointer) × ((r : DatasetRecord) × (next : DatasetRecord) × HasKnown changes snapshot r
    × HasKnown changes r.next next × (next.previous ≢ snapshot))

-- why a snapshot is not destroyed: it has clones, what comes after it doesn't name it, or memory, a record or list, or its kind
abbrev pub IsSnapshotKept : Store → Store → DatasetChanges → DatasetChanges → ℕ → Refusal → Type 0
IsSnapshotKept old new changes far snapshot refusal =
    HasClones far snapshot refusal
    ⊎ (IsUnlinked far snapshot refusal
    ⊎ IsChainRefused old new changes far snapshot kinds.Snapshot refusal)

-- ---- heads

-- what is before the head names it as what comes next, so it is the head's own
abbrev pub HasSnapshots : DatasetChanges → ℕ → Refusal → Type 0
HasSnapshots changes head refusal =
    (refusal ≡ BadPointer) × ((r : DatasetRecord) × (before : DatasetRecord) × HasKnown changes head r
    × HasKnown changes r.previous before × (before.next ≡ head))

-- the head is a clone, and its origin has none
abbrev pub IsUncounted : DatasetChanges → ℕ → Refusal → Type 0
IsUncounted changes head refusal =
    (refusal ≡ BadPointer) × ((r : DatasetRecord) × (before : DatasetRecord) × HasKnown changes head r
    × HasKnown changes r.previous before × (before.clones ≡ 0))

-- its record names a dead list where none can be
abbrev pub HasNoList : DatasetChanges → ℕ → Refusal → Type 0
HasNoList changes head refusal =
    (refusal ≡ BadPointer) × ((r : DatasetRecord) × HasKnown changes head r × ¬ IsNumber r.dead_list)

-- behind other reads the younger blocks of its tree were not found, by what was left before and after
pub record IsTreeLost (old new : Store) (far : DatasetChanges) (head group left_before left_after : ℕ) (refusal : Refusal) : Type 0 where
  pub mid : Store
  pub first : OnlyReadsBlocks old mid []
  pub r : DatasetRecord
  pub known : HasKnown far head r
  pub before : Option DatasetRecord
  pub before_is : IsKnownBefore far r.previous before
  pub why : IsTreeRefused (group_of before) mid new group r.object_set left_before left_after refusal

-- why a head may not be destroyed, by the records alone
abbrev pub IsHeadUnfit : Store → Store → DatasetChanges → DatasetChanges → ℕ → Refusal → Type 0
IsHeadUnfit old new changes far head refusal =
    HasSnapshots far head refusal
    ⊎ (IsUncounted far head refusal ⊎ IsChainRefused old new changes far head kinds.Volume refusal)

-- why a head is not destroyed: its tree was not read, its dead list is named where none can be, or it is unfit by the records
abbrev pub IsHeadKept : Store → Store → DatasetChanges → DatasetChanges → ℕ → ℕ → ℕ → ℕ → Refusal → Type 0
IsHeadKept old new changes far head group left_before left_after refusal =
    IsTreeLost old new far head group left_before left_after refusal
    ⊎ (HasNoList far head refusal ⊎ IsHeadUnfit old new changes far head refusal)
