-- Pools that run on their own disks: each label of each disk is its own, and each uberblock has the sum of the guids.
use Rattle.std.specs.Prelude.{ℕ, ◌≡◌, ◌<◌, Bool, List, [], length, slice_get, Some}
use Rattle.model_disk.specs.Joint.{Disks, JointCall}
use Rattle.model_disk.specs.Runs.{EachSince}
use Rattle.raidz_io.specs.Reads.{IsHonestSince}
use Rattle.block_store.specs.Places.{shapes_of}
use Rattle.block_store.specs.declared.shape.VdevShape.{VdevShape}
use Rattle.uberblock_ring.specs.declared.uberblock.Uberblock.{Uberblock}
use Rattle.vdev_label.specs.Config.{guid_sum}
use Rattle.vdev_label.specs.Limits.{IsAllowed}
use Rattle.vdev_label.specs.Plain.{PlainLabel, PlainVdev, config_view}
use Rattle.vdev_label.specs.declared.label.Config.{Config}
use Rattle.pool_create.specs.CommitState.{NoneIsOut}
use Rattle.pool_create.specs.CoreState.{CoreState, disks_of}
use Rattle.pool_create.specs.CoreSteps.{Link}
use Rattle.pool_create.specs.Creating.{IsCreated}
use Rattle.pool_create.specs.Moves.{Moves}
use Rattle.pool_format.specs.declared.labeling.PoolIdentity.{PoolIdentity}
use Rattle.pool_model.specs.Pools.{PlainPool}
use Rattle.pool_model.specs.View.{Given, View}
use Rattle.pool_model.specs.declared.step.Reply.{Reply}
use Rattle.pool_model.specs.declared.step.Step.{Step}
use Rattle.pool_create.specs.OpenOpening.{IsOpenedOver}
use Rattle.pool_create.specs.Shapes.{AreShapesOf}
use Rattle.pool_slots.specs.Commits.{only_last}
use Rattle.pool_slots.specs.Possible.{IsInReach, Possible}
use Rattle.pool_stops.specs.Configured.{IsFlushedLabel}
use Rattle.pool_stops.specs.OneConfig.{IsRunningAs, RunStopsAs}
use Rattle.pool_stops.specs.Reopening.{LeadToPools}
use Rattle.pool_stops.specs.Running.{IsLastStep}
use Rattle.pool_stops.specs.Own.{AreDisksOf, IsOwn, disk_guids}

-- each label of each disk of the pool holds one of its own, flushed
abbrev pub HoldOwn : PoolIdentity → List PlainVdev → List (List ℕ) → List JointCall → Type 0
HoldOwn pool vdevs starts calls =
    (which guid number : ℕ) → slice_get (disk_guids vdevs) which ≡ Some guid → number < 4
    → (l : PlainLabel) × IsFlushedLabel starts calls which number l × IsOwn pool vdevs guid l

-- each uberblock that an open may come to has the sum of the guids
abbrev pub AreOfSum : List PlainVdev → Possible → Type 0
AreOfSum vdevs p = (u : Uberblock) → IsInReach p u → u.guid_sum ≡ guid_sum vdevs

-- A core runs on the disks of a pool with this name, guid and configuration, in order, with the committed group's uberblock behind those.
pub record IsOnItsDisks (pool : PoolIdentity) (vdevs : List PlainVdev) (s : CoreState) (last : Uberblock) (before : List Uberblock) : Type 0 where
  pub allowed : IsAllowed pool.guid vdevs
  pub shapes_are : AreShapesOf vdevs 0 (shapes_of s.commit.store.spaces)
  pub count : length (disks_of s).starts ≡ length (disk_guids vdevs)
  pub holds : HoldOwn pool vdevs (disks_of s).starts (disks_of s).calls
  pub stamped : s.commit.stamp.guid_sum ≡ guid_sum vdevs
  pub sums : AreOfSum vdevs (only_last last before)

-- The last step of a run that is stopped well is one of such a core, at each moment of it too; and the core runs on so.
pub record StopsOnItsDisks (pool : PoolIdentity) (vdevs : List PlainVdev) {digest : List ℕ} {mid : CoreState} {between : View} {new : CoreState} {w : View}
    (stops : RunStopsAs digest mid between new w) : Type 0 where
  pub was : IsOnItsDisks pool vdevs mid stops.at.last stops.at.earlier
  pub held : EachSince (length (disks_of mid).calls) (HoldOwn pool vdevs (disks_of mid).starts) (disks_of new).calls
  pub sums : AreOfSum vdevs stops.at.steps.stops.p
  pub on : IsOnItsDisks pool vdevs new stops.at.steps.later stops.at.steps.earlier

-- A step of such a core, with this one as the committed group's uberblock behind those, is stopped well, at each moment of it; and the core runs on so.
pub record StepsOnItsDisks (pool : PoolIdentity) (vdevs : List PlainVdev) (digest : List ℕ) (old : CoreState) (v : View) (new : CoreState) (w : View)
    (last : Uberblock) (before : List Uberblock) : Type 0 where
  pub stops : RunStopsAs digest old v new w
  pub last_is : stops.at.last ≡ last
  pub before_is : stops.at.earlier ≡ before
  pub on : StopsOnItsDisks pool vdevs stops

-- ---- laws

-- a pool that was just made runs on its disks
abbrev pub CreatedPoolsAreOnTheirDisks : Type 0
CreatedPoolsAreOnTheirDisks =
    (old : Disks) (pool : PoolIdentity) (config : Config) (u : Uberblock) (core : CoreState) → IsCreated old pool config u core
    → IsOnItsDisks pool (config_view config) core u []

-- each step of a run of such a pool is one, as long as no disk is out by its end
abbrev pub RunsStayOnTheirDisks : Type 0
RunsStayOnTheirDisks =
    (pool : PoolIdentity) (vdevs : List PlainVdev) (old mid new : CoreState) (v between w : View) (steps : List Step) (replies : List Reply) (step : Step)
    (reply : Reply) (last : Uberblock) (before : List Uberblock) (digest : List ℕ) → IsRunningAs digest old v last before
    → IsOnItsDisks pool vdevs old last before → IsLastStep old mid new v between w steps replies step reply → NoneIsOut new.commit
    → (stops : RunStopsAs digest mid between new w) × StopsOnItsDisks pool vdevs stops

-- so it is of one step, of which no disk goes out
abbrev pub StepsStayOnTheirDisks : Type 0
StepsStayOnTheirDisks =
    (pool : PoolIdentity) (vdevs : List PlainVdev) (digest : List ℕ) (old new : CoreState) (v w : View) (step : Step) (given : Given) (reply : Reply)
    (last : Uberblock) (before : List Uberblock) → IsRunningAs digest old v last before → IsOnItsDisks pool vdevs old last before
    → Link old v step given reply new w → Moves step old.commit new.commit → NoneIsOut new.commit
    → StepsOnItsDisks pool vdevs digest old v new w last before

-- and so is one that was opened, of its own disks
abbrev pub OpenedPoolsAreOnTheirDisks : Type 0
OpenedPoolsAreOnTheirDisks =
    (pool : PoolIdentity) (vdevs : List PlainVdev) (old : Disks) (shapes : List VdevShape) (out : List Bool) (rewind : ℕ) (p : Possible)
    (pools : Uberblock → PlainPool) (claimed : Uberblock) (core : CoreState) → AreDisksOf pool vdevs shapes out old → AreOfSum vdevs p
    → LeadToPools old shapes out p pools → (is : IsOpenedOver old shapes out rewind claimed core) → is.later ≡ out → IsHonestSince old (disks_of core)
    → IsOnItsDisks pool vdevs core claimed []
