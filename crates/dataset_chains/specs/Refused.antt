-- Why a group's change of a chain is refused.
use Rattle.std.specs.Prelude.{ℕ, ◌≡◌, ◌≢◌, ◌⊎◌, ◌-◌, ◌^◌, List, [], Some, Any}
use Rattle.block_pointer.specs.Block.{FitsBlock}
use Rattle.block_pointer.specs.declared.block.Block.{Block}
use Rattle.block_store.specs.declared.refusal.Refusal.{Refusal}
use Rattle.block_store.specs.declared.refusal.Refusal.TheVariants.{NoMemory, NoSpace, BadPointer}
use Rattle.block_store.specs.Steps.{OnlyReadsBlocks}
use Rattle.block_store.specs.Store.{Store}
use Rattle.dataset_changes.specs.Refused.{IsListEndUnread, IsListUnread, IsRecordUnread}
use Rattle.dataset_changes.specs.States.{AreOfOneSet, record_at}
use Rattle.dataset_changes.specs.declared.changes.DatasetChanges.{DatasetChanges}
use Rattle.dataset_changes.specs.declared.states.RecordState.TheVariants as records
use Rattle.meta_objset.specs.declared.record.DatasetKind.{DatasetKind}
use Rattle.meta_objset.specs.declared.record.DatasetRecord.{DatasetRecord}

-- the record is there, was read or put there, and is this one
abbrev pub HasKnown : DatasetChanges → ℕ → DatasetRecord → Type 0
HasKnown changes number r =
    (record_at changes number ≡ Some (records.Read r))
    ⊎ ((record_at changes number ≡ Some (records.Changed r)) ⊎ (record_at changes number ≡ Some (records.Made r)))

-- behind other reads, while the changes came so far, the record at some number was not read
pub record IsRecordLost (old new : Store) (changes : DatasetChanges) (refusal : Refusal) : Type 0 where
  pub mid : Store
  pub before : OnlyReadsBlocks old mid []
  pub far : DatasetChanges
  pub one_set : AreOfOneSet changes far
  pub number : ℕ
  pub why : IsRecordUnread mid new far number refusal

-- or a dead list, or the end of one
pub record IsListLost (old new : Store) (changes : DatasetChanges) (refusal : Refusal) : Type 0 where
  pub mid : Store
  pub before : OnlyReadsBlocks old mid []
  pub far : DatasetChanges
  pub one_set : AreOfOneSet changes far
  pub number : ℕ
  pub why : IsListUnread mid new far number refusal ⊎ IsListEndUnread mid new far number refusal

-- the dataset is of another kind
abbrev pub IsOfOtherKind : DatasetChanges → ℕ → DatasetKind → Refusal → Type 0
IsOfOtherKind changes number kind refusal =
    (refusal ≡ BadPointer) × ((r : DatasetRecord) × HasKnown changes number r × (r.kind ≢ kind))

-- a snapshot has as many clones as can be counted
abbrev pub HasMostClones : DatasetChanges → ℕ → Refusal → Type 0
HasMostClones changes number refusal =
    (refusal ≡ NoSpace) × ((r : DatasetRecord) × HasKnown changes number r × (r.clones ≡ 2 ^ 64 - 1))

-- one of these blocks has no spelling, and so no row of a dead list
abbrev pub IsBlockMisfit : List Block → Refusal → Type 0
IsBlockMisfit left refusal = (refusal ≡ BadPointer) × Any (λ block. ¬ FitsBlock block) left

-- why a dataset of this kind is not changed: memory, a record or a dead list, or its kind
abbrev pub IsChainRefused : Store → Store → DatasetChanges → DatasetChanges → ℕ → DatasetKind → Refusal → Type 0
IsChainRefused old new changes far number kind refusal =
    (refusal ≡ NoMemory)
    ⊎ (IsRecordLost old new changes refusal
    ⊎ (IsListLost old new changes refusal ⊎ IsOfOtherKind far number kind refusal))
