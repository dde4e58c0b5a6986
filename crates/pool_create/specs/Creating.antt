-- A pool that is made on disks.
use Rattle.std.specs.Prelude.{ℕ, ◌≡◌, ◌⊎◌, ◌<◌, true, false, Some, List, length, Ok}
use Rattle.block_pointer.specs.declared.block.Block.{Block}
use Rattle.block_store.specs.Places.{shapes_of}
use Rattle.block_store.specs.Store.{is_out}
use Rattle.block_store.specs.declared.shape.VdevShape.{VdevShape}
use Rattle.model_disk.specs.Joint.{Disks, bytes_of, content}
use Rattle.model_disk.specs.Runs.{AreSettled, Makes, no_write}
use Rattle.pool_open.specs.Spans.{HaveNoSpans, NoneIsStale}
use Rattle.pool_open.specs.Calls.{GrewTo}
use Rattle.pool_open.specs.Represents.{Represents}
use Rattle.pool_open.specs.CoreState.{CoreState, config_of, disks_of}
use Rattle.pool_format.specs.Blank.{TellsBlank}
use Rattle.pool_format.specs.Labels.{AreLabeled, IsLabelWrite, labels_of}
use Rattle.pool_format.specs.declared.labeling.PoolIdentity.{PoolIdentity}
use Rattle.pool_model.specs.Pools.{no_volumes}
use Rattle.pool_model.specs.View.{none_stale, opened_as}
use Rattle.pool_open.specs.Shapes.{AreShapesOf}
use Rattle.pool_open.specs.Words.{stamp_of, vdevs_in}
use Rattle.pool_open.specs.declared.refusal.Refusal.{Refusal}
use Rattle.pool_open.specs.declared.refusal.Refusal.TheVariants.{NoMemory, DiskFault, BadConfig}
use Rattle.pool_slots.specs.Failures.{HasFailedOn}
use Rattle.pool_slots.specs.Opens.{AreKnown, IsHighestShown, IsShownOn}
use Rattle.pool_slots.specs.Slots.{IsSlot, Shows, slot_at}
use Rattle.raidz_io.specs.Reads.{IsHonestSince}
use Rattle.sha2.specs.Sha256.{sha256}
use Rattle.uberblock_ring.specs.Uberblock.{Fits}
use Rattle.uberblock_ring.specs.declared.uberblock.Uberblock.{Uberblock}
use Rattle.vdev_label.specs.Config.{config_bytes, guid_sum}
use Rattle.vdev_label.specs.Plain.{config_view}
use Rattle.vdev_label.specs.declared.label.Config.{Config}
use Rattle.pool_create.specs.FirstGroup.{HasFirstGroup, LacksFirstGroup}
use Rattle.pool_create.specs.Planning.{MayBeMade, IsNewPool, nobody}
use Rattle.pool_create.specs.ReadingBack.{IsUnread, of_read}
use Rattle.pool_create.specs.declared.planning.NewPool.{NewPool}

-- ---- a pool that was made

-- what the uberblock of a new pool is
pub record IsFirst (config : Config) (u : Uberblock) : Type 0 where
  pub group_is : u.group ≡ 3
  pub claim_is : u.claim ≡ 1
  pub guids : u.guid_sum ≡ guid_sum (config_view config)
  pub digest : u.config_digest ≡ sha256 (config_bytes (config_view config))

-- where the bytes of these disks were known and all answers since were true, it is what an open would take
abbrev pub IsShownSince : Disks → Disks → Uberblock → Type 0
IsShownSince old new u = AreKnown (nobody old.starts) old → IsHonestSince old new → IsHighestShown (nobody old.starts) new u

-- each slot of each of so many disks shows the uberblock or none, and each disk shows it
pub record IsShownAlone (count : ℕ) (disks : Disks) (u : Uberblock) : Type 0 where
  pub only : (which label slot : ℕ) (v : Uberblock) → which < count → IsSlot label slot
      → Shows (content disks which) (slot_at (length (bytes_of disks.starts which)) label slot) slot v → v ≡ u
  pub each : (which : ℕ) → which < count → IsShownOn (length (bytes_of disks.starts which)) (content disks which) u

-- where the bytes of the old disks were known and all answers since were true, each of the new ones shows it, and no other
abbrev pub IsShownAloneSince : Disks → Disks → Uberblock → Type 0
IsShownAloneSince old new u = AreKnown (nobody old.starts) old → IsHonestSince old new → IsShownAlone (length old.starts) new u

-- The pool was made: no disk showed one before, then its first group was committed, and then all disks were labeled.
pub record IsCreated (old : Disks) (pool : PoolIdentity) (config : Config) (u : Uberblock) (core : CoreState) : Type 0 where
  pub may : MayBeMade old.starts pool config
  pub shapes : List VdevShape
  pub shapes_are : AreShapesOf (config_view config) 0 shapes
  pub grew : GrewTo old (disks_of core)
  pub blank : TellsBlank old (disks_of core) (Ok true)
  pub first : IsFirst config u
  pub labeled : AreLabeled (disks_of core) (labels_of pool config 1 3)
  pub settled : AreSettled (disks_of core)
  pub shown : IsShownSince old (disks_of core) u
  pub fits : Fits u
  pub alone : IsShownAloneSince old (disks_of core) u
  pub stamped : core.commit.stamp ≡ stamp_of u
  pub root : core.commit.kept.last.root ≡ Some u.root
  -- the core has these vdevs and the configuration, and no disk is out
  pub outs : core.commit.store.out ≡ nobody old.starts
  pub vdevs : shapes_of core.commit.store.spaces ≡ shapes
  pub configured : config_view (config_of core) ≡ config_view config
  pub represents : IsHonestSince old (disks_of core)
      → Represents core (opened_as (vdevs_in shapes) (is_out (nobody old.starts)) none_stale 3 no_volumes)
  -- it knows of no stale spans
  pub fresh : NoneIsStale core.commit
  pub untouched : IsHonestSince old (disks_of core) → HaveNoSpans core.commit

-- ---- a pool that was not, and the disks as they are then

-- the disks grew to these
pub record GoesTo (old : Disks) (P : Disks → Type 0) : Type 0 where
  pub new : Disks
  pub grew : GrewTo old new
  pub holds : P new

-- it may not be made on them, or one of them shows a pool
abbrev pub IsNoPlace : Disks → PoolIdentity → Config → Disks → Type 0
IsNoPlace old pool config new = (¬ MayBeMade old.starts pool config) ⊎ TellsBlank old new (Ok false)

-- a call on one of them failed
abbrev pub HasFault : Disks → Disks → Type 0
HasFault old new = (which : ℕ) × HasFailedOn old new which

-- on blank disks the first group was not committed
abbrev pub IsNotBegun : Disks → Config → Disks → Refusal → Type 0
IsNotBegun old config new refusal =
    (it : NewPool) × IsNewPool config (length old.starts) it × GoesTo old (λ blank. LacksFirstGroup blank it new refusal)

-- it was, the disks were labeled, and what was read of them was refused
pub record IsBackRefused (old : Disks) (pool : PoolIdentity) (config : Config) (it : NewPool) (new : Disks) (refusal : Refusal) : Type 0 where
  pub first : Disks
  pub root : Block
  pub group : HasFirstGroup old it first root
  pub labeled : Disks
  pub labels : Makes (IsLabelWrite first.starts (labels_of pool config 1 3)) first labeled
  pub show : AreLabeled labeled (labels_of pool config 1 3)
  pub cause : Refusal
  pub same : refusal ≡ of_read cause
  pub unread : IsUnread labeled it root new cause

-- on blank disks the first group was committed and labels written, and what was read back was refused
abbrev pub IsNotReadBack : Disks → PoolIdentity → Config → Disks → Refusal → Type 0
IsNotReadBack old pool config new refusal =
    (it : NewPool) × IsNewPool config (length old.starts) it × GoesTo old (λ blank. IsBackRefused blank pool config it new refusal)

-- why it was not: of BadConfig nothing was written
abbrev pub WhyNotCreated : Disks → PoolIdentity → Config → Disks → Refusal → Type 0
WhyNotCreated old pool config new refusal =
    (refusal ≡ NoMemory)
    ⊎ (((refusal ≡ BadConfig) × Makes no_write old new × IsNoPlace old pool config new)
    ⊎ (((refusal ≡ DiskFault) × HasFault old new)
    ⊎ (IsNotBegun old config new refusal ⊎ IsNotReadBack old pool config new refusal)))

-- It was not. Where it is put down to the configuration or to a pool that is there, nothing was written on any disk.
pub record CreateRefuses (old : Disks) (pool : PoolIdentity) (config : Config) (new : Disks) (refusal : Refusal) : Type 0 where
  pub grew : GrewTo old new
  pub unwritten : refusal ≡ BadConfig → Makes no_write old new
  pub why : WhyNotCreated old pool config new refusal
