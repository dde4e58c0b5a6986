-- Reading a new pool as an open does.
use Rattle.std.specs.Prelude.{ℕ, ◌≡◌, ◌≢◌, ◌⊎◌, ◌-◌, ◌^◌, Bool, List, [], Some}
use Rattle.block_pointer.specs.declared.block.Block.{Block}
use Rattle.block_store.specs.Places.{shapes_of}
use Rattle.block_store.specs.Blocks.{Contents}
use Rattle.block_store.specs.Store.{is_out}
use Rattle.model_disk.specs.Joint.{Disks}
use Rattle.model_disk.specs.Runs.{Makes, no_write}
use Rattle.pool_open.specs.Reopened.{IsConfiguredUnder}
use Rattle.pool_open.specs.Slots.{IsStampOf, uberblock_of}
use Rattle.pool_open.specs.Represents.{Represents}
use Rattle.pool_open.specs.CoreState.{CoreState, config_of, disks_of}
use Rattle.pool_model.specs.Pools.{no_volumes}
use Rattle.pool_model.specs.View.{none_stale, opened_as}
use Rattle.pool_open.specs.Causes.{of_root, of_slots}
use Rattle.pool_open.specs.Held.{HoldOver}
use Rattle.pool_open.specs.Mapped.{SpellsWithMaps}
use Rattle.pool_open.specs.Pools.{SpellsPool}
use Rattle.pool_open.specs.Spans.{HaveNoSpans}
use Rattle.pool_open.specs.Opening.{AreMisplacedOver, RootContents}
use Rattle.pool_open.specs.Roots.{IsReadOfRoot, RootRefuses}
use Rattle.pool_open.specs.Words.{stamp_of, vdevs_in}
use Rattle.pool_open.specs.declared.refusal.Refusal.{Refusal}
use Rattle.pool_open.specs.declared.refusal.Refusal.TheVariants.{NoMemory, DiskFault, NoUberblock, BadPointer, BadConfig}
use Rattle.pool_slots.specs.Failures.{HasFailedOn}
use Rattle.pool_slots.specs.Present.{IsNoFault}
use Rattle.pool_slots.specs.Surveys.{Surveyed, IsSurveyed, IsWholeOf, SurveyRefuses}
use Rattle.pool_slots.specs.declared.refusal.Refusal.{Refusal as SlotsRefusal}
use Rattle.raidz_io.specs.Reads.{IsHonestSince}
use Rattle.space_map_objects.specs.declared.refusal.Refusal.{Refusal as RootRefusal}
use Rattle.uberblock_ring.specs.declared.uberblock.Uberblock.{Uberblock}
use Rattle.vdev_label.specs.Plain.{config_view}
use Rattle.pool_create.specs.Alone.{AreReadAlone, IsCrowded}
use Rattle.pool_create.specs.declared.planning.NewPool.{NewPool}

-- the uberblock of the first group with this root
abbrev pub first_uberblock : NewPool → Block → Uberblock
first_uberblock it root = uberblock_of it.stamp 3 root 0

-- a survey of all disks took this uberblock
pub record IsTakenOf (old new : Disks) (out : List Bool) (u : Uberblock) : Type 0 where
  pub s : Surveyed
  pub whole : IsWholeOf out old.starts s
  pub surveyed : IsSurveyed out 0 old new s
  pub taken_is : u ≡ s.taken

-- the core that was read of disks on which a pool's first group is
pub record IsReadBack (old : Disks) (it : NewPool) (root : Block) (u : Uberblock) (core : CoreState) : Type 0 where
  pub only : Makes no_write old (disks_of core)
  pub is : u ≡ first_uberblock it root
  pub taken : IsTakenOf old (disks_of core) it.out.items u
  pub alone : AreReadAlone u old (disks_of core)
  pub stamped : core.commit.stamp ≡ stamp_of u
  pub root_is : core.commit.kept.last.root ≡ Some u.root
  pub outs : core.commit.store.out ≡ it.out.items
  pub vdevs : shapes_of core.commit.store.spaces ≡ it.shapes.items
  pub config : config_of core ≡ it.config.value
  pub fresh : core.commit.store.spans.stale ≡ []
  pub untouched : (stored : Contents) → HoldOver old it.shapes.items it.out.items [] stored → (is : SpellsPool stored 3 root no_volumes) → is.stale ≡ []
      → IsHonestSince old (disks_of core) → HaveNoSpans core.commit
  pub represents : (stored : Contents) → HoldOver old it.shapes.items it.out.items [] stored → SpellsWithMaps stored it.shapes.items 3 root no_volumes
      → IsConfiguredUnder it.stamp stored 3 root no_volumes → IsStampOf (config_view it.config.value) it.stamp.claim it.stamp
      → IsHonestSince old (disks_of core) → Represents core (opened_as (vdevs_in it.shapes.items) (is_out it.out.items) none_stale 3 no_volumes)

-- the slots or labels of the disks in use were refused
pub record IsSurveyRefused (old new : Disks) (refusal : Refusal) : Type 0 where
  pub later : List Bool
  pub cause : SlotsRefusal
  pub same : refusal ≡ of_slots cause
  pub why : SurveyRefuses later 0 old new cause
  pub no_fault : IsNoFault cause

-- what the disks show isn't the first uberblock
abbrev pub IsOther : Disks → Disks → NewPool → Block → Type 0
IsOther old new it root = (u : Uberblock) × IsTakenOf old new it.out.items u × (u ≢ first_uberblock it root)

-- it is that one
pub record IsFirstTaken (old surveyed : Disks) (it : NewPool) (root : Block) : Type 0 where
  pub u : Uberblock
  pub taken : IsTakenOf old surveyed it.out.items u
  pub is : u ≡ first_uberblock it root

-- it is, and one of the disks shows another too, or another alone, or none
abbrev pub IsAmongOthers : Disks → Disks → NewPool → Block → Type 0
IsAmongOthers old new it root = IsFirstTaken old new it root × IsCrowded (first_uberblock it root) old new

-- its root can't be read
pub record IsRootUnread (now new : Disks) (it : NewPool) (root : Block) (refusal : Refusal) : Type 0 where
  pub cause : RootRefusal
  pub same : refusal ≡ of_root cause
  pub why : RootRefuses now new it.shapes.items it.out.items [] 3 root (2 ^ 64 - 1) cause

-- what was read of it has no place on the vdevs
pub record IsMisplaced (old new : Disks) (it : NewPool) (root : Block) : Type 0 where
  pub contents : RootContents
  pub reads : IsReadOfRoot old new it.shapes.items it.out.items [] 3 root contents
  pub why : AreMisplacedOver new it.shapes.items it.out.items [] contents

-- why there is no core: memory, a read that failed, or what was read
abbrev pub IsCauseOfReading : Disks → Disks → NewPool → Block → Refusal → Type 0
IsCauseOfReading old new it root refusal =
    (refusal ≡ NoMemory)
    ⊎ (((refusal ≡ DiskFault) × ((which : ℕ) × HasFailedOn old new which))
    ⊎ (IsSurveyRefused old new refusal
    ⊎ (((refusal ≡ NoUberblock) × (IsOther old new it root ⊎ IsAmongOthers old new it root))
    ⊎ (((surveyed : Disks) × IsFirstTaken old surveyed it root × IsRootUnread surveyed new it root refusal)
    ⊎ ((refusal ≡ BadPointer) × ((surveyed : Disks) × IsFirstTaken old surveyed it root × IsMisplaced surveyed new it root))))))

-- the disks were only read, and are these now
abbrev pub IsUnread : Disks → NewPool → Block → Disks → Refusal → Type 0
IsUnread old it root new refusal = Makes no_write old new × IsCauseOfReading old new it root refusal

-- What was just written isn't put down to its configuration: a pool that doesn't show that shows no uberblock of it.
abbrev pub of_read : Refusal → Refusal
of_read BadConfig = NoUberblock
of_read refusal = refusal
