-- Which records and dead lists the destroy of a dataset touches.
use Rattle.std.specs.Prelude.{ℕ, ◌≡◌, ◌≢◌, ◌⊎◌, List, Option}
use Rattle.block_pointer.specs.declared.block.Block.{Block}
use Rattle.dataset_chains.specs.Refused.{HasKnown}
use Rattle.dataset_chains.specs.Touched.{AreAtMostRead, TouchesOnly}
use Rattle.dataset_chains.specs.Over.{HasListNow}
use Rattle.dataset_chains.specs.States.{AreOfOneSet, list_at}
use Rattle.dataset_chains.specs.DatasetChanges.{DatasetChanges}
use Rattle.meta_objset.specs.declared.record.DatasetKind.TheVariants as kinds
use Rattle.meta_objset.specs.declared.record.DatasetRecord.{DatasetRecord}
use Rattle.objset.specs.Objects.{Object}

-- the record at a number names this dead list
abbrev pub NamesList : DatasetChanges → ℕ → ℕ → Type 0
NamesList changes number list = (r : DatasetRecord) × HasKnown changes number r × (r.dead_list ≡ list)

-- the record names this as what comes after the dataset, where that is a snapshot, or as what is before it
abbrev pub IsBeside : DatasetRecord → ℕ → Type 0
IsBeside r number = (((r.kind ≡ kinds.Snapshot) × (number ≡ r.next)) ⊎ (number ≡ r.previous)) × (number ≢ 0)

-- it names this dead list, or that is the one of what comes after the dataset, where that is a snapshot
abbrev pub IsListBeside : DatasetChanges → DatasetRecord → ℕ → Type 0
IsListBeside changes r list = (r.dead_list ≡ list) ⊎ ((r.kind ≡ kinds.Snapshot) × (r.next ≢ 0) × NamesList changes r.next list)

-- Records were read. Then those of the dataset, of what comes after a snapshot and of what is before the dataset are touched, as its record
-- names them, and the dead lists of the dataset and of what comes after a snapshot.
pub record IsDestroyTouched (old new : DatasetChanges) (number : ℕ) : Type 0 where
  pub read : DatasetChanges
  pub one_set : AreOfOneSet old read
  pub were : AreAtMostRead old read
  pub r : DatasetRecord
  pub known : HasKnown read number r
  pub touched : TouchesOnly old new (λ one. (one ≡ number) ⊎ IsBeside r one) (IsListBeside read r)

-- Only dead lists that were there are touched.
abbrev pub TouchesOwnLists : (ℕ → Option Object) → DatasetChanges → DatasetChanges → Type 0
TouchesOwnLists objects old new =
    (number : ℕ) → (list_at new number ≡ list_at old number) ⊎ ((list : List Block) × HasListNow objects old number list)
