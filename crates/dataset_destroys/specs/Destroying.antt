-- A dataset that is destroyed, by what it is.
use Rattle.std.specs.Prelude.{ℕ, ◌≤◌, ◌⊎◌, List, [], length}
use Rattle.block_pointer.specs.declared.block.Block.{Block}
use Rattle.block_store.specs.Steps.{OnlyReadsBlocks}
use Rattle.block_store.specs.Store.{Store}
use Rattle.block_store.specs.declared.refusal.Refusal.{Refusal}
use Rattle.dataset_chains.specs.Refused.{HasKnown}
use Rattle.dataset_chains.specs.ChangesRefused.{IsRecordUnread}
use Rattle.dataset_chains.specs.States.{AreOfOneSet}
use Rattle.dataset_chains.specs.DatasetChanges.{DatasetChanges}
use Rattle.dead_list.specs.Datasets.{Free, Head, Kind, Pool}
use Rattle.dead_list.specs.Datasets.{Snapshot as ASnapshot}
use Rattle.dead_list.specs.Operations.{DestroyHead, DestroySnapshot, IsHead, Makes, MayDo, Operation}
use Rattle.meta_objset.specs.declared.record.DatasetKind.{DatasetKind}
use Rattle.meta_objset.specs.declared.record.DatasetKind.TheVariants.{Volume, Snapshot}
use Rattle.meta_objset.specs.declared.record.DatasetRecord.{DatasetRecord}
use Rattle.dataset_destroys.specs.Refused.{IsHeadKept, IsSnapshotKept}

-- ---- the operation

-- what destroys a dataset of this kind; where there is none it is an operation that may not be done
abbrev pub operation_of : Kind → ℕ → Operation
operation_of Free number = DestroyHead number
operation_of Head number = DestroyHead number
operation_of ASnapshot number = DestroySnapshot number

-- what destroys the dataset at a number
abbrev pub destroy_of : Pool → ℕ → Operation
destroy_of pool number = operation_of (pool.datasets number).kind number

-- the dataset at a number may be destroyed: it is a head without snapshots of its own, or a snapshot without clones
abbrev pub MayDestroy : Pool → ℕ → Type 0
MayDestroy pool number = MayDo pool (destroy_of pool number)

-- the pool becomes another, and these blocks are freed
abbrev pub IsDestroyed : Pool → ℕ → List Block → Pool → Type 0
IsDestroyed old number freed new = Makes old (destroy_of old number) freed new

-- as many blocks are left to be read as a head has; of a snapshot none is read
abbrev pub AreEnoughLeft : Pool → ℕ → ℕ → Type 0
AreEnoughLeft pool number left = IsHead pool.datasets number → length (pool.datasets number).blocks ≤ left

-- ---- refusals

-- why a dataset is not destroyed as one of this kind, by what was left to be read before and after
abbrev pub IsKeptAs : DatasetKind → Store → Store → DatasetChanges → DatasetChanges → ℕ → ℕ → ℕ → ℕ → Refusal → Type 0
IsKeptAs Volume old new changes far number group left_before left_after refusal =
    IsHeadKept old new changes far number group left_before left_after refusal
IsKeptAs Snapshot old new changes far number group left_before left_after refusal =
    IsSnapshotKept old new changes far number refusal

-- its record was read, and behind that it is not destroyed as what the record says that it is
pub record IsReadKept (old new : Store) (changes far : DatasetChanges) (number group left_before left_after : ℕ) (refusal : Refusal) : Type 0 where
  pub mid : Store
  pub first : OnlyReadsBlocks old mid []
  pub read : DatasetChanges
  pub one_set : AreOfOneSet changes read
  pub r : DatasetRecord
  pub known : HasKnown read number r
  pub why : IsKeptAs r.kind mid new read far number group left_before left_after refusal

-- why a dataset is not destroyed: its record was not read, or what that says it is was not destroyed
abbrev pub IsDatasetKept : Store → Store → DatasetChanges → DatasetChanges → ℕ → ℕ → ℕ → ℕ → Refusal → Type 0
IsDatasetKept old new changes far number group left_before left_after refusal =
    IsRecordUnread old new changes number refusal
    ⊎ IsReadKept old new changes far number group left_before left_after refusal
