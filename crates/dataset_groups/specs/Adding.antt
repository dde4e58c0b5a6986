-- A dataset that is added to those of a group.
use Rattle.std.specs.Prelude.{[], ℕ, ◌≡◌, ◌<◌, ◌+◌, List, Option}
use Rattle.block_pointer.specs.declared.block.Block.{Block}
use Rattle.block_store.specs.Blocks.{Contents}
use Rattle.block_store.specs.Steps.{AnswersTell}
use Rattle.block_store.specs.Store.{Holds, Store}
use Rattle.dataset_destroys.specs.Chains.{AreNewNumbers, LeadsTo, Reading, SpellsChains}
use Rattle.dataset_destroys.specs.ChainMaking.{IsNewRecord, volume_with}
use Rattle.dataset_destroys.specs.ChainTouched.{IsCloneTouched, IsSnapshotTouched, TouchesOnly}
use Rattle.dataset_destroys.specs.States.{birth_of, set_of}
use Rattle.dataset_destroys.specs.DatasetChanges.{DatasetChanges}
use Rattle.dead_list.specs.Blocks.{AreDistinct}
use Rattle.dead_list.specs.Datasets.{Pool, updated}
use Rattle.dead_list.specs.Operations.{AreNew, IsHead, IsSnapshot, IsUnused, clone_of, with_dataset, with_snapshot}
use Rattle.meta_objset.specs.declared.record.DatasetRecord.{DatasetRecord}
use Rattle.meta_objset.specs.Directory.{IsPlacedAmong}
use Rattle.objset.specs.Objects.{AreObjects, Object}
use Rattle.dataset_groups.specs.declared.datasets.GroupDatasets.{GroupDatasets}

-- where the number is unused and the record that of a new volume, the chains have the volume there
abbrev pub AddsVolume : DatasetChanges → DatasetChanges → ℕ → DatasetRecord → Type 0
AddsVolume old new number r =
    (known : Contents) (group : ℕ) (objects : ℕ → Option Object) (pool : Pool) (readings : ℕ → Reading) (blocks : List Block) (reading : Reading)
    → 0 < group → SpellsChains known group objects old pool readings → IsUnused pool.datasets number → IsNewRecord group r
    → AreNewNumbers objects old number r.dead_list → LeadsTo known group r blocks reading → AreNew pool blocks → AreDistinct blocks
    → SpellsChains known group objects new (with_dataset pool number (volume_with pool blocks)) (updated readings number reading)

-- The dataset has the next number, and its dead list the one behind it. The name has a row that names it.
pub record IsAdded (old : GroupDatasets) (name : List ℕ) (r : DatasetRecord) (new : GroupDatasets) : Type 0 where
  pub row : IsPlacedAmong old.directory (record { name = name; object = old.next }) new.directory
  pub next : new.next ≡ old.next + 2
  pub bounds : new.bounds ≡ old.bounds
  pub adds : AddsVolume old.changes new.changes old.next r
  pub touched : TouchesOnly old.changes new.changes (λ one. one ≡ old.next) (λ one. one ≡ r.dead_list)

-- where the head is one and the number unused, the chains have a snapshot of it there; blocks of the set alone are read
abbrev pub AddsSnapshot : Store → Store → ℕ → ℕ → DatasetChanges → DatasetChanges → ℕ → Type 0
AddsSnapshot before after group head old new number =
    (stored known : Contents) (objects : ℕ → Option Object) (own : List Block) (blocks : ℕ → List Block) (pool : Pool)
    (readings : ℕ → Reading) → Holds before stored → AreObjects stored (birth_of old) (set_of old) objects own blocks
    → AnswersTell before after [] → SpellsChains known group objects old pool readings → IsHead pool.datasets head
    → IsUnused pool.datasets number → AreNewNumbers objects old number (number + 1)
    → SpellsChains known group objects new (with_snapshot pool head number) (updated readings number (readings head))

-- The snapshot has the next number, and the head's new dead list the one behind it. The name has a row that names the snapshot.
pub record IsTaken (before after : Store) (group head : ℕ) (old : GroupDatasets) (name : List ℕ) (new : GroupDatasets) : Type 0 where
  pub row : IsPlacedAmong old.directory (record { name = name; object = old.next }) new.directory
  pub next : new.next ≡ old.next + 2
  pub bounds : new.bounds ≡ old.bounds
  pub adds : AddsSnapshot before after group head old.changes new.changes old.next
  pub touched : IsSnapshotTouched old.changes new.changes head old.next (old.next + 1)

-- where the origin is a snapshot and the number unused, the chains have a clone of it there; blocks of the set alone are read
abbrev pub AddsClone : Store → Store → ℕ → ℕ → DatasetChanges → DatasetChanges → ℕ → Type 0
AddsClone before after group origin old new number =
    (stored known : Contents) (objects : ℕ → Option Object) (own : List Block) (blocks : ℕ → List Block) (pool : Pool)
    (readings : ℕ → Reading) → Holds before stored → AreObjects stored (birth_of old) (set_of old) objects own blocks
    → AnswersTell before after [] → SpellsChains known group objects old pool readings → IsSnapshot pool.datasets origin
    → IsUnused pool.datasets number → AreNewNumbers objects old number (number + 1)
    → SpellsChains known group objects new (with_dataset pool number (clone_of pool origin)) (updated readings number (readings origin))

-- The clone has the next number, and its dead list the one behind it. The name has a row that names the clone.
pub record IsCloned (before after : Store) (group origin : ℕ) (old : GroupDatasets) (name : List ℕ) (new : GroupDatasets) : Type 0 where
  pub row : IsPlacedAmong old.directory (record { name = name; object = old.next }) new.directory
  pub next : new.next ≡ old.next + 2
  pub bounds : new.bounds ≡ old.bounds
  pub adds : AddsClone before after group origin old.changes new.changes old.next
  pub touched : IsCloneTouched old.changes new.changes origin old.next (old.next + 1)
