-- Cores that are begun anew over the disks of a pool that is open.
use Rattle.std.specs.Prelude.{◌≡◌, ◌⊎◌, ◌<◌, Bool, List, Option, Some}
use Rattle.block_store.specs.Opened.{MayBeOpened}
use Rattle.block_store.specs.Places.{shapes_of}
use Rattle.block_store.specs.declared.shape.VdevShape.{VdevShape}
use Rattle.disk_set.specs.declared.stale.GroupSpan.{GroupSpan}
use Rattle.meta_objset.specs.declared.stale_spans.StaleSpan.{StaleSpan}
use Rattle.model_disk.specs.Joint.{Disks}
use Rattle.pool_core.specs.RootContents.{RootContents}
use Rattle.pool_core.specs.Spans.{LeavesOutStale}
use Rattle.pool_core.specs.State.{CoreState, config_of, disks_of, spans_of}
use Rattle.pool_model.specs.Refusals.{greatest}
use Rattle.space_map_objects.specs.declared.refusal.Refusal.{Refusal as RootRefusal}
use Rattle.stale_disks.specs.Rules.{guids_in, stale_groups}
use Rattle.uberblock_ring.specs.Uberblock.{IsNumber}
use Rattle.uberblock_ring.specs.declared.uberblock.Uberblock.{Uberblock}
use Rattle.vdev_label.specs.Plain.{config_view}
use Rattle.vdev_label.specs.declared.label.Config.{Config}
use Rattle.pool_open.specs.Causes.{of_root}
use Rattle.pool_open.specs.Opening.{AreMisplacedOver, RepresentsRoot}
use Rattle.pool_open.specs.Roots.{AreReadBeside, IsReadOfRoot, RootRefuses}
use Rattle.pool_open.specs.Words.{most_blocks, stamp_of}
use Rattle.pool_open.specs.declared.refusal.Refusal.{Refusal}
use Rattle.pool_open.specs.declared.refusal.Refusal.TheVariants.{NoMemory, NoUberblock, BadPointer, BadConfig}

-- groups are left behind that of the uberblock
abbrev pub GoesOnFrom : Uberblock → Type 0
GoesOnFrom u = IsNumber u.claim × (u.group < greatest)

-- The disks were only read, and none of those that are out was. The core goes on from the uberblock, and knows these spans of its disks: by them it leaves
-- disks out as it reads, and represents what the root is of.
pub record IsCoreAgain (old : Disks) (shapes : List VdevShape) (out : List Bool) (claimed : Uberblock) (config : Config) (spans : List StaleSpan)
    (core : CoreState) : Type 0 where
  pub reads : AreReadBeside out old (disks_of core)
  pub stamped : core.commit.stamp ≡ stamp_of claimed
  pub root : core.commit.kept.last.root ≡ Some claimed.root
  pub outs : core.commit.store.out ≡ out
  pub vdevs : shapes_of core.commit.store.spaces ≡ shapes
  pub configured : config_of core ≡ config
  pub spans_are : spans_of core ≡ spans
  pub stale : LeavesOutStale core.commit
  pub represents : RepresentsRoot old old (disks_of core) shapes out claimed core

-- ---- none

-- what was read of the root has no place on the vdevs
pub record IsRootMisplaced (old new : Disks) (shapes : List VdevShape) (out : List Bool) (stale : List (Option GroupSpan)) (u : Uberblock) : Type 0 where
  pub contents : RootContents
  pub read : IsReadOfRoot old new shapes out stale u.group u.root contents
  pub why : AreMisplacedOver new shapes out stale contents

-- the root was not read, with disks left out for these groups, or has no place
abbrev pub IsRootRefusedBy : Disks → Disks → List VdevShape → List Bool → List (Option GroupSpan) → Uberblock → Refusal → Type 0
IsRootRefusedBy old new shapes out stale u refusal =
    ((cause : RootRefusal) × (refusal ≡ of_root cause) × RootRefuses old new shapes out stale u.group u.root (most_blocks shapes) cause)
    ⊎ ((refusal ≡ BadPointer) × IsRootMisplaced old new shapes out stale u)

-- The disks were only read, none of those that are out. Memory ran out; no group is left; the vdevs don't lie on the disks; or the root was refused.
pub record IsNoCoreAgain (old : Disks) (shapes : List VdevShape) (out : List Bool) (claimed : Uberblock) (config : Config) (spans : List StaleSpan)
    (new : Disks) (refusal : Refusal) : Type 0 where
  pub reads : AreReadBeside out old new
  pub why : (refusal ≡ NoMemory) ⊎ (((refusal ≡ NoUberblock) × ¬ GoesOnFrom claimed) ⊎ (((refusal ≡ BadConfig) × ¬ MayBeOpened old.starts shapes out)
      ⊎ IsRootRefusedBy old new shapes out (stale_groups spans (guids_in (config_view config))) claimed refusal))
