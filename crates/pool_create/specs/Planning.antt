-- Which pools may be made, and what follows from their configuration.
use Rattle.std.specs.Prelude.{ℕ, ◌≡◌, false, Bool, List, length, replicate, IsTrue, string_bytes}
use Rattle.block_store.specs.Opened.{MayBeOpened}
use Rattle.block_store.specs.declared.shape.VdevShape.{VdevShape}
use Rattle.pool_open.specs.Configs.{FitsTable}
use Rattle.pool_open.specs.Slots.{IsStampOf}
use Rattle.pool_format.specs.Labels.{children_of}
use Rattle.pool_format.specs.declared.labeling.PoolIdentity.{PoolIdentity}
use Rattle.pool_open.specs.Shapes.{AreShapesOf}
use Rattle.vdev_label.specs.Limits.{IsAllowed}
use Rattle.vdev_label.specs.Pairs.{is_name}
use Rattle.vdev_label.specs.Plain.{config_view}
use Rattle.vdev_label.specs.declared.label.Config.{Config}
use Rattle.pool_create.specs.declared.planning.NewPool.{NewPool}

-- none of so many disks is out
abbrev pub none_out : ℕ → List Bool
none_out count = replicate count false

-- none of these disks is
abbrev pub nobody : List (List ℕ) → List Bool
nobody starts = none_out (length starts)

-- a pool of this name, guid and configuration may be made on disks of these sizes
pub record MayBeMade (starts : List (List ℕ)) (pool : PoolIdentity) (config : Config) : Type 0 where
  pub name : IsTrue (is_name (string_bytes pool.name))
  pub allowed : IsAllowed pool.guid (config_view config)
  pub count : length (children_of (config_view config)) ≡ length starts
  pub lie : (shapes : List VdevShape) → AreShapesOf (config_view config) 0 shapes → MayBeOpened starts shapes (nobody starts)

-- the name and the configuration may be a pool's
abbrev pub IsAllowedPool : PoolIdentity → Config → Type 0
IsAllowedPool pool config = IsTrue (is_name (string_bytes pool.name)) × IsAllowed pool.guid (config_view config)

-- what the first group and the reading of it need of a configuration, for so many disks
pub record IsNewPool (config : Config) (count : ℕ) (it : NewPool) : Type 0 where
  pub shapes_are : AreShapesOf (config_view config) 0 it.shapes.items
  pub none_is_out : it.out.items ≡ none_out count
  pub stamp_is : IsStampOf (config_view config) 1 it.stamp
  -- it has the configuration itself, which has room in a table
  pub config_is : config_view it.config.value ≡ config_view config
  pub table : FitsTable (config_view it.config.value)
