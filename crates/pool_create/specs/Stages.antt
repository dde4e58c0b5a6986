-- Stages of making a pool.
use Rattle.std.specs.Prelude.{◌≡◌, ◌≢◌, ◌⊎◌, true, false, Some, Ok}
use Rattle.block_store.specs.Places.{shapes_of}
use Rattle.block_store.specs.Opened.{MayBeOpened}
use Rattle.block_store.specs.Store.{is_out}
use Rattle.model_disk.specs.Joint.{Disks}
use Rattle.model_disk.specs.Runs.{AreSettled, Makes, no_write}
use Rattle.pool_open.specs.Spans.{HaveNoSpans, NoneIsStale}
use Rattle.pool_open.specs.Calls.{GrewTo}
use Rattle.pool_open.specs.Represents.{Represents}
use Rattle.pool_open.specs.CoreState.{CoreState, config_of, disks_of}
use Rattle.pool_format.specs.Blank.{TellsBlank}
use Rattle.pool_format.specs.Labels.{AreLabeled, labels_of}
use Rattle.pool_format.specs.declared.labeling.PoolIdentity.{PoolIdentity}
use Rattle.pool_model.specs.Pools.{no_volumes}
use Rattle.pool_model.specs.View.{none_stale, opened_as}
use Rattle.pool_open.specs.Held.{IsLaidOver}
use Rattle.pool_open.specs.Words.{stamp_of, vdevs_in}
use Rattle.pool_open.specs.declared.refusal.Refusal.{Refusal}
use Rattle.pool_open.specs.declared.refusal.Refusal.TheVariants.{NoMemory, DiskFault, BadConfig}
use Rattle.pool_slots.specs.Slots.{HaveLabels}
use Rattle.raidz_io.specs.Reads.{IsHonestSince}
use Rattle.uberblock_ring.specs.Uberblock.{Fits}
use Rattle.uberblock_ring.specs.declared.uberblock.Uberblock.{Uberblock}
use Rattle.vdev_label.specs.Plain.{config_view}
use Rattle.vdev_label.specs.declared.label.Config.{Config}
use Rattle.pool_create.specs.Creating.{IsBackRefused, HasFault, IsFirst, IsShownAloneSince, IsShownSince}
use Rattle.pool_create.specs.FirstGroup.{LacksFirstGroup}
use Rattle.pool_create.specs.declared.planning.NewPool.{NewPool}

-- the vdevs lie on the disks, and their labels beside them
pub record IsLaid (disks : Disks) (it : NewPool) : Type 0 where
  pub may : MayBeOpened disks.starts it.shapes.items it.out.items
  pub labels : HaveLabels disks.starts
  pub laid : IsLaidOver disks it.shapes.items it.out.items

-- so it is, and the disks show no pool
pub record IsFit (old : Disks) (it : NewPool) (new : Disks) : Type 0 where
  pub only : Makes no_write old new
  pub blank : TellsBlank old new (Ok true)
  pub is_laid : IsLaid new it

-- It isn't, or they do. Nothing was written.
pub record IsUnfit (old : Disks) (it : NewPool) (new : Disks) (refusal : Refusal) : Type 0 where
  pub only : Makes no_write old new
  pub why : (refusal ≡ NoMemory)
      ⊎ (((refusal ≡ BadConfig) × ((¬ MayBeOpened old.starts it.shapes.items it.out.items) ⊎ TellsBlank old new (Ok false)))
      ⊎ ((refusal ≡ DiskFault) × HasFault old new))

-- the first group, the labels, and what was read of them
pub record IsMade (old : Disks) (pool : PoolIdentity) (config : Config) (it : NewPool) (u : Uberblock) (core : CoreState) : Type 0 where
  pub grew : GrewTo old (disks_of core)
  pub first : IsFirst config u
  pub labeled : AreLabeled (disks_of core) (labels_of pool config 1 3)
  pub settled : AreSettled (disks_of core)
  pub shown : IsShownSince old (disks_of core) u
  pub fits : Fits u
  pub alone : IsShownAloneSince old (disks_of core) u
  pub stamped : core.commit.stamp ≡ stamp_of u
  pub root : core.commit.kept.last.root ≡ Some u.root
  pub outs : core.commit.store.out ≡ it.out.items
  pub vdevs : shapes_of core.commit.store.spaces ≡ it.shapes.items
  pub configured : config_view (config_of core) ≡ config_view config
  pub represents : IsHonestSince old (disks_of core)
      → Represents core (opened_as (vdevs_in it.shapes.items) (is_out it.out.items) none_stale 3 no_volumes)
  pub fresh : NoneIsStale core.commit
  pub untouched : IsHonestSince old (disks_of core) → HaveNoSpans core.commit

-- There is none of them. It isn't put down to the configuration.
pub record IsUnmade (old : Disks) (pool : PoolIdentity) (config : Config) (it : NewPool) (new : Disks) (refusal : Refusal) : Type 0 where
  pub grew : GrewTo old new
  pub other : refusal ≢ BadConfig
  pub why : (refusal ≡ NoMemory)
      ⊎ (((refusal ≡ DiskFault) × HasFault old new)
      ⊎ (LacksFirstGroup old it new refusal
      ⊎ IsBackRefused old pool config it new refusal))
