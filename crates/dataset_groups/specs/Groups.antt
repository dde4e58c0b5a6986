-- What a group makes of a pool's datasets.
use Rattle.std.specs.Prelude.{ℕ, ◌≡◌, ◌⊎◌, ◌<◌, ◌≤◌, max, Option, None}
use Rattle.block_store.specs.Blocks.{Contents}
use Rattle.dataset_destroys.specs.Chains.{Reading, SpellsChains}
use Rattle.dataset_destroys.specs.Results.{AreMixed}
use Rattle.dataset_destroys.specs.States.{list_at, record_at}
use Rattle.dataset_destroys.specs.DatasetChanges.{DatasetChanges}
use Rattle.dead_list.specs.Datasets.{Pool}
use Rattle.dnode.specs.declared.object_set.ObjectSet.{ObjectSet}
use Rattle.objset.specs.Objects.{Object}
use Rattle.pool_model.specs.Pools.{PlainPool}
use Rattle.dataset_groups.specs.declared.datasets.GroupDatasets.{GroupDatasets}
use Rattle.dataset_groups.specs.declared.datasets.NumberBounds.{NumberBounds}
use Rattle.dataset_groups.specs.Names.{NamesPool}

-- the first number behind the tables and behind the objects that are there
abbrev pub first_number : ObjectSet → ℕ
first_number set = max set.objects 5

-- the number is below the end of those that new objects take, or behind all objects that there were
abbrev pub IsWithin : NumberBounds → ℕ → Type 0
IsWithin bounds number = (number < bounds.end) ⊎ (bounds.behind ≤ number)

-- there is no object of that number, and nothing was made of it
pub record IsFresh (objects : ℕ → Option Object) (changes : DatasetChanges) (number : ℕ) : Type 0 where
  pub no_object : objects number ≡ None
  pub no_record : record_at changes number ≡ None
  pub no_list : list_at changes number ≡ None

-- the first number behind all objects, those that were made too
abbrev pub next_behind : GroupDatasets → ℕ
next_behind datasets = max datasets.next datasets.bounds.behind

-- The records and dead lists, as the group leaves them so far, are those of the pool's datasets; the directory names each of them, as the
-- volumes of the plain pool. No object has the next number or a later one within the bounds, and none has both a record and a dead list.
pub record SpellsGroup (known : Contents) (group : ℕ) (objects : ℕ → Option Object) (datasets : GroupDatasets) (pool : Pool)
    (readings : ℕ → Reading) (plain : PlainPool) : Type 0 where
  pub chains : SpellsChains known group objects datasets.changes pool readings
  pub names : NamesPool pool readings datasets.directory plain
  pub fresh : (number : ℕ) → datasets.next ≤ number → IsWithin datasets.bounds number
      → IsFresh objects datasets.changes number
  pub unmixed : ¬ AreMixed datasets.changes
