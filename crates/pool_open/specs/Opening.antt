-- Opening a pool whose disks are in order.
use Rattle.std.specs.Prelude.{ℕ, ◌≡◌, ◌⊎◌, ◌≤◌, Bool, true, false, Option, Some, List, length}
use Rattle.model_disk.specs.Joint.{Disks}
use Rattle.raidz_io.specs.Reads.{IsHonestSince}
use Rattle.block_store.specs.Blocks.{Contents}
use Rattle.block_store.specs.Opened.{MayBeOpened}
use Rattle.block_store.specs.Places.{AreEmpty, shapes_of}
use Rattle.disk_set.specs.declared.stale.GroupSpan.{GroupSpan}
use Rattle.block_store.specs.Store.{Store, is_out, is_stale}
use Rattle.block_store.specs.declared.shape.VdevShape.{VdevShape}
pub use Rattle.pool_core.specs.Spans.{HasSpansOpened, LeavesOutStale}
use Rattle.pool_core.specs.Mapped.{SpellsWithMaps}
pub use Rattle.pool_core.specs.RootContents.{RootContents}
use Rattle.pool_core.specs.Reopened.{AreMisplaced}
use Rattle.pool_core.specs.Represents.{Represents}
use Rattle.pool_core.specs.State.{CoreState, disks_of}
use Rattle.pool_model.specs.Pools.{PlainPool}
use Rattle.pool_model.specs.Refusals.{greatest}
use Rattle.pool_model.specs.View.{is_tolerable, opened_as}
use Rattle.pool_slots.specs.Configs.{OpenConfigures}
use Rattle.pool_slots.specs.Labels.{AreClaimed, AreSlotted, IsClaimWrite}
use Rattle.pool_slots.specs.Opens.{OpenGives, OpenKeeps, OpenMarks, OpenTakes}
use Rattle.pool_slots.specs.Present.{GoOut, IsNoFault}
use Rattle.pool_slots.specs.Relabels.{OpenRelabels, OpenRewrites}
use Rattle.pool_slots.specs.Slots.{InUse, MakesOn}
use Rattle.pool_slots.specs.Surveys.{Surveyed, IsSurveyed, SurveyRefuses}
use Rattle.pool_slots.specs.declared.refusal.Refusal.{Refusal as SlotsRefusal}
use Rattle.space_map_objects.specs.declared.refusal.Refusal.{Refusal as RootRefusal}
use Rattle.uberblock_ring.specs.declared.uberblock.Uberblock.{Uberblock}
use Rattle.volume_rules.specs.NowMoves.{IsMadeBy}
use Rattle.pool_open.specs.Causes.{of_root, of_slots}
use Rattle.pool_open.specs.Held.{FewLieOver, HoldOver, IsStoreOver}
use Rattle.pool_open.specs.Roots.{AreMissedBy, AreReadBeside, IsKnownRoot, RootIsUnknown}
use Rattle.pool_open.specs.Trees.{IsConfiguredFor, NamesConfigOf, OpensPossible}
use Rattle.pool_open.specs.Words.{most_blocks, stamp_of, vdevs_in}
use Rattle.pool_open.specs.declared.refusal.Refusal.{Refusal}
use Rattle.pool_open.specs.declared.refusal.Refusal.TheVariants.{NoMemory, NoUberblock, BadPointer, TooManyMissing, BadConfig}

-- ---- which calls are made

-- Disks in use were read, and those of which a read failed are out now. Then blocks were read of the others.
pub record AreReadThrough (out later : List Bool) (old new : Disks) : Type 0 where
  pub surveyed : Disks
  pub absent : GoOut out later old surveyed
  pub blocks : AreReadBeside later surveyed new

-- And then an uberblock was claimed on those that are still in use, or a claim of it was begun.
pub record AreClaimedThrough (out later : List Bool) (claimed : Uberblock) (old new : Disks) : Type 0 where
  pub read : Disks
  pub before : AreReadThrough out later old read
  pub claims : MakesOn (InUse later) (IsClaimWrite read.starts later claimed) read new

-- Stopped at any moment since, inside a device call too, the disks lead to one of the possible uberblocks or to a claim of one, and their
-- labels show the claim and the configuration. Of labels those alone are written that their disks have, for what is claimed.
pub record IsKeptThrough (later : List Bool) (rewind : ℕ) (old new : Disks) : Type 0 where
  pub leads : OpenKeeps later rewind old new
  pub marks : OpenMarks later rewind old new
  pub configures : OpenConfigures later rewind old new
  pub rewrites : OpenRewrites later old new

-- ---- an open that is done, by one attempt

-- Where the disks still in use have the blocks of a root that spells a pool, but for those of groups that disks missed by what the core knows, and it has
-- its space maps and a configuration, the claimed uberblock names that and the one that the core keeps, and all answers were true, or few disks lied as
-- blocks were read, from these disks to those, the core represents that pool.
abbrev pub RepresentsRoot : Disks → Disks → Disks → List VdevShape → List Bool → Uberblock → CoreState → Type 0
RepresentsRoot old surveyed read shapes later claimed core =
    (stored : Contents) (pool : PlainPool) → HoldOver old shapes later core.commit.store.spans.stale stored
    → SpellsWithMaps stored shapes claimed.group claimed.root pool → IsConfiguredFor claimed stored pool → NamesConfigOf claimed core
    → IsHonestSince old (disks_of core) ⊎ FewLieOver surveyed read shapes later core.commit.store.spans.stale → IsMadeBy claimed.group pool
    → Represents core (opened_as (vdevs_in shapes) (is_out later) (is_stale core.commit.store.spans.stale) claimed.group pool)

-- An uberblock was claimed on the disks that are still in use, and the core goes on from its group.
pub record IsOpenedOver (old : Disks) (shapes : List VdevShape) (out : List Bool) (rewind : ℕ) (claimed : Uberblock) (core : CoreState) : Type 0 where
  pub later : List Bool
  pub calls : AreClaimedThrough out later claimed old (disks_of core)
  pub kept : IsKeptThrough later rewind old (disks_of core)
  pub gives : OpenGives later rewind old claimed (disks_of core)
  pub takes : OpenTakes later rewind old claimed (disks_of core)
  -- it stands in its slot in all four labels of each, and each of their labels shows its claim
  pub slotted : AreSlotted later (disks_of core) claimed
  pub labeled : AreClaimed later (disks_of core) claimed
  pub relabels : OpenRelabels later old claimed (disks_of core)
  pub tolerable : is_tolerable (vdevs_in shapes) (is_out later) ≡ true
  pub stamped : core.commit.stamp ≡ stamp_of claimed
  pub root : core.commit.kept.last.root ≡ Some claimed.root
  -- the vdevs take the disks in order, and the core has them and the disks that are out
  pub may : MayBeOpened old.starts shapes out
  pub outs : core.commit.store.out ≡ later
  pub vdevs : shapes_of core.commit.store.spaces ≡ shapes
  -- and the spans of the group's table, which end with the group for disks that are back; those of their groups it leaves out as it reads
  pub spans : HasSpansOpened later claimed.group core.commit.kept.last
  pub stale : LeavesOutStale core.commit
  pub represents : RepresentsRoot old calls.before.surveyed calls.read shapes later claimed core
  pub possible : OpensPossible old calls.before.surveyed calls.read shapes later rewind claimed core

-- ---- an open that is refused, by one attempt

-- the slots or labels were refused; or no group is left after that which is taken; or of a vdev too many disks are out
abbrev pub IsSurveyRefused : List VdevShape → List Bool → ℕ → Disks → Disks → Refusal → Type 0
IsSurveyRefused shapes later rewind old new refusal =
    ((cause : SlotsRefusal) × (refusal ≡ of_slots cause) × SurveyRefuses later rewind old new cause × IsNoFault cause)
    ⊎ (((refusal ≡ NoUberblock) × ((s : Surveyed) × IsSurveyed later rewind old new s × (greatest ≤ s.claimed.group)))
    ⊎ ((refusal ≡ TooManyMissing) × (is_tolerable (vdevs_in shapes) (is_out later) ≡ false)))

-- what was surveyed has a root that was refused
pub record IsRootUnread (guids : List ℕ) (old surveyed new : Disks) (shapes : List VdevShape) (later : List Bool) (rewind : ℕ) (refusal : Refusal) : Type 0 where
  pub s : Surveyed
  pub is : IsSurveyed later rewind old surveyed s
  pub cause : RootRefusal
  pub same : refusal ≡ of_root cause
  pub why : RootIsUnknown guids surveyed new shapes later s.claimed.group s.claimed.root (most_blocks shapes) cause

-- what was read of a root has no place on the vdevs
pub record AreMisplacedOver (disks : Disks) (shapes : List VdevShape) (later : List Bool) (stale : List (Option GroupSpan)) (contents : RootContents)
    : Type 0 where
  pub store : Store
  pub over : IsStoreOver disks shapes later stale store
  pub empty : AreEmpty store.spaces
  pub misplaced : AreMisplaced store.spaces contents

-- of what was read of the root that was surveyed
pub record IsReadMisplaced (guids : List ℕ) (old surveyed read new : Disks) (shapes : List VdevShape) (later : List Bool) (rewind : ℕ) : Type 0 where
  pub s : Surveyed
  pub is : IsSurveyed later rewind old surveyed s
  pub contents : RootContents
  pub stale : List (Option GroupSpan)
  pub missed : AreMissedBy guids later s.claimed.group contents.spans stale
  pub reads : IsKnownRoot surveyed read shapes later s.claimed.group s.claimed.root contents stale
  pub why : AreMisplacedOver new shapes later stale contents

-- Before anything was written: want of memory; the vdevs don't lie on the disks; slots, labels or absent disks; the root.
abbrev pub IsCauseOfReading : List ℕ → Disks → Disks → Disks → List VdevShape → List Bool → List Bool → ℕ → Refusal → Type 0
IsCauseOfReading guids old surveyed new shapes out later rewind refusal =
    (refusal ≡ NoMemory)
    ⊎ (((refusal ≡ BadConfig) × ¬ MayBeOpened old.starts shapes out)
    ⊎ (IsSurveyRefused shapes later rewind old new refusal
    ⊎ IsRootUnread guids old surveyed new shapes later rewind refusal))

-- Once a claim was done: want of memory; a space map or a block has no place of its own.
abbrev pub IsCauseOfClaim : List ℕ → Disks → Disks → Disks → Disks → List VdevShape → List Bool → ℕ → Refusal → Type 0
IsCauseOfClaim guids old surveyed read new shapes later rewind refusal =
    (refusal ≡ NoMemory) ⊎ ((refusal ≡ BadPointer) × IsReadMisplaced guids old surveyed read new shapes later rewind)

-- one of these; and once a claim was done the disks lead to it alone, with nothing unflushed
abbrev pub IsOpenCause : List ℕ → Disks → Disks → List VdevShape → List Bool → List Bool → ℕ → Refusal → Type 0
IsOpenCause guids old new shapes out later rewind refusal =
    ((through : AreReadThrough out later old new) × IsCauseOfReading guids old through.surveyed new shapes out later rewind refusal)
    ⊎ ((claimed : Uberblock) × (through : AreClaimedThrough out later claimed old new) × OpenGives later rewind old claimed new
    × IsCauseOfClaim guids old through.before.surveyed through.read new shapes later rewind refusal)

-- The new disks are as a stop in the open might leave the old ones, and there is a cause.
pub record IsNotOpenedOver (guids : List ℕ) (old : Disks) (shapes : List VdevShape) (out : List Bool) (rewind : ℕ) (new : Disks) (refusal : Refusal) : Type 0 where
  pub later : List Bool
  pub count : length later ≡ length old.starts
  pub kept : IsKeptThrough later rewind old new
  pub cause : IsOpenCause guids old new shapes out later rewind refusal
