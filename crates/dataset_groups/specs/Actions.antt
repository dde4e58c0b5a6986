-- What actions make of a pool's datasets.
use Rattle.std.specs.Prelude.{ℕ, [], Option}
use Rattle.block_store.specs.Blocks.{Contents}
use Rattle.dataset_destroys.specs.Chains.{Reading}
use Rattle.dead_list.specs.Datasets.{Pool}
use Rattle.objset.specs.Objects.{Object}
use Rattle.pool_model.specs.Pools.{PlainPool}
use Rattle.dataset_groups.specs.declared.datasets.GroupDatasets.{GroupDatasets}
use Rattle.dataset_groups.specs.Groups.{SpellsGroup}
use Rattle.dataset_groups.specs.Leaving.{AddsData, IsReachExchanged}
use Rattle.dataset_groups.specs.Names.{reach_by}

-- The datasets come to those of the plain pool. Nothing that was reached goes; what is planned is what is reached besides.
pub record AreActed (group : ℕ) (objects : ℕ → Option Object) (planned later : Contents) (old new : GroupDatasets) (pool : Pool)
    (plain : PlainPool) : Type 0 where
  pub after : Pool
  pub readings : ℕ → Reading
  pub spells : SpellsGroup later group objects new after readings plain
  pub exchanged : IsReachExchanged group planned later (reach_by pool old.directory) (reach_by after new.directory) []
  pub adds : AddsData planned later
