-- The datasets of a pool, as the objects of a meta object set have them.
use Rattle.std.specs.Prelude.{ℕ, ◌≡◌, ◌≢◌, List, Option}
use Rattle.block_store.specs.Blocks.{Contents}
use Rattle.dataset_changes.specs.Results.{AreChangesOf}
use Rattle.dataset_changes.specs.States.{AreUntouched, IsNumber}
use Rattle.dataset_changes.specs.declared.changes.DatasetChanges.{DatasetChanges}
use Rattle.dead_list.specs.Datasets.{Free, Pool, nothing}
use Rattle.dead_list.specs.Sound.{IsSound}
use Rattle.dataset_changes.specs.Lists.{HasDeadList}
use Rattle.meta_objset.specs.Datasets.{HasRecord}
use Rattle.meta_objset.specs.declared.record.DatasetRecord.{DatasetRecord}
use Rattle.objset.specs.Changes.{changed}
use Rattle.objset.specs.Objects.{Object}
use Rattle.objset.specs.declared.changes.ObjectChange.{ObjectChange}
use Rattle.dataset_chains.specs.Chains.{HasCloneCount, IsRecordFor, LeadsTo, Reading, SpellsChains}

-- The object of this number, behind those of the tables, has the record of the dataset, which leads to its blocks and to its dead list.
pub record StandsAt (stored : Contents) (birth : ℕ) (objects : ℕ → Option Object) (pool : Pool) (readings : ℕ → Reading) (number : ℕ)
    : Type 0 where
  pub behind : IsNumber number
  pub r : DatasetRecord
  pub has : HasRecord (objects number) r
  pub is : IsRecordFor pool number r
  pub clones : HasCloneCount pool number r.clones
  pub leads : LeadsTo stored birth r (pool.datasets number).blocks (readings number)
  pub list_behind : IsNumber r.dead_list
  pub dead : HasDeadList (objects r.dead_list) (pool.datasets number).dead

-- a number that is free stands for nothing, and its object, if any, has no record
pub record StandsForNothing (objects : ℕ → Option Object) (pool : Pool) (number : ℕ) : Type 0 where
  pub is : pool.datasets number ≡ nothing
  pub none : (r : DatasetRecord) → ¬ HasRecord (objects number) r

-- The records and dead lists of the objects are those of the pool's datasets, no more and no fewer, and no two datasets have one dead list.
-- The datasets fit one another, and change in this group.
pub record HasChains (stored : Contents) (group : ℕ) (objects : ℕ → Option Object) (pool : Pool) (readings : ℕ → Reading) : Type 0 where
  pub sound : IsSound pool
  pub now : pool.group ≡ group
  pub each : (number : ℕ) → (pool.datasets number).kind ≢ Free → StandsAt stored group objects pool readings number
  pub none : (number : ℕ) → (pool.datasets number).kind ≡ Free → StandsForNothing objects pool number
  pub apart : (number other : ℕ) (r s : DatasetRecord) → HasRecord (objects number) r → HasRecord (objects other) s
      → r.dead_list ≡ s.dead_list → number ≡ other

-- What a group finds is what the objects have, as long as it made nothing of them.
abbrev pub GroupsBeginWithChains : Type 0
GroupsBeginWithChains =
    (stored : Contents) (group : ℕ) (objects : ℕ → Option Object) (pool : Pool) (readings : ℕ → Reading) (changes : DatasetChanges)
    → AreUntouched changes → HasChains stored group objects pool readings → SpellsChains stored group objects changes pool readings

-- And what it leaves is what the objects have once they are changed so.
abbrev pub GroupsLeaveChains : Type 0
GroupsLeaveChains =
    (known : Contents) (group : ℕ) (objects : ℕ → Option Object) (pool : Pool) (readings : ℕ → Reading) (changes : DatasetChanges)
    (made : List ObjectChange) → SpellsChains known group objects changes pool readings → AreChangesOf changes made
    → HasChains known group (changed made objects) pool readings
