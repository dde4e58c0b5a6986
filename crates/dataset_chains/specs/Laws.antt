-- What follows from these definitions.
use Rattle.std.specs.Prelude.{ℕ, suc, ◌≡◌, List, Option}
use Rattle.block_store.specs.Blocks.{Contents, Extends}
use Rattle.dataset_changes.specs.Over.{HasRecordNow}
use Rattle.dataset_changes.specs.Results.{Gives}
use Rattle.dataset_changes.specs.States.{AreUntouched}
use Rattle.dataset_changes.specs.declared.changes.DatasetChanges.{DatasetChanges}
use Rattle.dead_list.specs.Datasets.{Pool}
use Rattle.meta_objset.specs.declared.record.DatasetRecord.{DatasetRecord}
use Rattle.objset.specs.Changes.{changed}
use Rattle.objset.specs.Objects.{Object}
use Rattle.objset.specs.declared.changes.ObjectChange.{ObjectChange}
use Rattle.dataset_chains.specs.Chains.{Reading, SpellsChains}

-- Datasets spell their pool where more blocks are known; they spell it in the next group; and once a group's changes of objects are
-- made, the objects spell it, with nothing read or changed.
pub record ChainsStay : Type 0 where
  pub more : (known later : Contents) (group : ℕ) (objects : ℕ → Option Object) (changes : DatasetChanges) (pool : Pool) (readings : ℕ → Reading)
      → Extends known later → SpellsChains known group objects changes pool readings
      → SpellsChains later group objects changes pool readings
  pub next : (known : Contents) (group : ℕ) (objects : ℕ → Option Object) (changes : DatasetChanges) (pool : Pool) (readings : ℕ → Reading)
      → SpellsChains known group objects changes pool readings
      → SpellsChains known (suc group) objects changes (record pool { group = suc pool.group }) readings
  pub made : (known : Contents) (group : ℕ) (objects : ℕ → Option Object) (changes untouched : DatasetChanges) (made : List ObjectChange) (pool : Pool) (readings : ℕ → Reading)
      → Gives changes made objects → AreUntouched untouched → SpellsChains known group objects changes pool readings
      → SpellsChains known group (changed made objects) untouched pool readings

-- a number has at most one record, as a group leaves it so far
abbrev pub DatasetsHaveOneRecord : Type 0
DatasetsHaveOneRecord =
    (objects : ℕ → Option Object) (changes : DatasetChanges) (number : ℕ) (r s : DatasetRecord) → HasRecordNow objects changes number r → HasRecordNow objects changes number s → r ≡ s
