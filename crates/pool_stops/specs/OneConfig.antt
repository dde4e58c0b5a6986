-- Pools that run with one configuration: each label shows it, and each uberblock that an open may come to has it.
use Rattle.std.specs.Prelude.{ℕ, ◌≡◌, ◌<◌, ◌≤◌, ◌^◌, Bool, false, List, [], length}
use Rattle.model_disk.specs.Joint.{Disks, bytes_of, content}
use Rattle.model_disk.specs.Runs.{EachSince}
use Rattle.raidz_io.specs.Reads.{IsHonestSince}
use Rattle.block_store.specs.Opened.{MayBeOpened}
use Rattle.block_store.specs.Places.{shapes_of}
use Rattle.block_store.specs.Store.{is_out}
use Rattle.block_store.specs.declared.shape.VdevShape.{VdevShape}
use Rattle.uberblock_ring.specs.declared.uberblock.Uberblock.{Uberblock}
use Rattle.vdev_label.specs.declared.label.Config.{Config}
use Rattle.pool_create.specs.CommitState.{NoneIsOut}
use Rattle.pool_create.specs.CoreState.{CoreState, disks_of}
use Rattle.pool_create.specs.Creating.{IsCreated}
use Rattle.pool_create.specs.Planning.{nobody}
use Rattle.pool_format.specs.declared.labeling.PoolIdentity.{PoolIdentity}
use Rattle.pool_model.specs.Pools.{PlainPool, no_volumes}
use Rattle.pool_model.specs.View.{View, none_stale, opened_as}
use Rattle.pool_model.specs.declared.step.Reply.{Reply}
use Rattle.pool_model.specs.declared.step.Step.{Step}
use Rattle.pool_create.specs.OpenExporting.{IsExportBegun}
use Rattle.pool_create.specs.OpenOpening.{IsKeptThrough, IsOpenedOver}
use Rattle.pool_create.specs.OpenStops.{fresh}
use Rattle.pool_create.specs.Trees.{NamesConfigOf}
use Rattle.pool_create.specs.Words.{vdevs_in}
use Rattle.pool_slots.specs.Commits.{only_last}
use Rattle.pool_slots.specs.Configs.{AreNotFour, IsConfigured, LeavesConfigured}
use Rattle.pool_slots.specs.Opens.{AreKnown}
use Rattle.pool_slots.specs.Possible.{IsInReach, Possible}
use Rattle.pool_slots.specs.Slots.{InUse}
use Rattle.pool_stops.specs.Configured.{AreShowing, HoldConfigured, ShowsConfigured}
use Rattle.pool_stops.specs.Reopening.{IsOpenedWell, IsPossibleBehind, LeadToPools, LeavesImages}
use Rattle.pool_stops.specs.Running.{IsLastStep, IsRunning, RunStopsAt}

-- each uberblock that an open may come to has the configuration of this digest
abbrev pub AreOfConfig : List ℕ → Possible → Type 0
AreOfConfig digest p = (u : Uberblock) → IsInReach p u → u.config_digest ≡ digest

-- The pool runs, with the committed group's uberblock behind those, and its vdevs take its disks in order. Whatever an open may come to has the
-- configuration, so will uberblocks to come, and each label shows it.
pub record IsRunningAs (digest : List ℕ) (s : CoreState) (v : View) (last : Uberblock) (before : List Uberblock) : Type 0 where
  pub runs : IsRunning s v last before
  pub lies : MayBeOpened (disks_of s).starts (shapes_of s.commit.store.spaces) s.commit.store.out
  pub stamped : s.commit.stamp.config_digest ≡ digest
  pub one : AreOfConfig digest (only_last last before)
  pub shows : ShowsConfigured s.commit digest

-- The last step of a run is stopped well: whatever the disks lead to has the configuration, and each label holds it at each moment. The pool runs on so.
pub record RunStopsAs (digest : List ℕ) (mid : CoreState) (between : View) (new : CoreState) (w : View) : Type 0 where
  pub at : RunStopsAt mid between new w
  pub lies : MayBeOpened (disks_of mid).starts (shapes_of mid.commit.store.spaces) mid.commit.store.out
  pub one : AreOfConfig digest at.steps.stops.p
  pub held : EachSince (length (disks_of mid).calls) (HoldConfigured mid.commit.store.out (disks_of mid).starts digest) (disks_of new).calls
  pub on : IsRunningAs digest new w at.steps.later at.steps.earlier

-- ---- laws

-- So it is of each step of a run of such a pool, as long as no disk is out by its end.
abbrev pub RunsStopAs : Type 0
RunsStopAs =
    (old mid new : CoreState) (v between w : View) (steps : List Step) (replies : List Reply) (step : Step) (reply : Reply) (last : Uberblock)
    (before : List Uberblock) (digest : List ℕ) → IsRunningAs digest old v last before → IsLastStep old mid new v between w steps replies step reply
    → NoneIsOut new.commit → RunStopsAs digest mid between new w

-- What a stop in such a step leaves shows, on each disk in use, the configuration of each uberblock that an open may come to.
abbrev pub StoppedRunsShowConfig : Type 0
StoppedRunsShowConfig =
    (digest : List ℕ) (mid : CoreState) (between : View) (new : CoreState) (w : View) (images : List (List ℕ)) (u : Uberblock) (which : ℕ)
    → (stops : RunStopsAs digest mid between new w) → LeavesImages mid.commit.store.out (disks_of mid) (disks_of new) images
    → IsInReach stops.at.steps.stops.p u → InUse mid.commit.store.out which
    → IsConfigured (length (bytes_of images which)) (content (fresh images) which) u.config_digest

-- a pool that was just made is one
abbrev pub CreatedPoolsRunAs : Type 0
CreatedPoolsRunAs =
    (old : Disks) (pool : PoolIdentity) (config : Config) (u : Uberblock) (core : CoreState) → (is : IsCreated old pool config u core)
    → AreKnown (nobody old.starts) old → IsHonestSince old (disks_of core) → 0 < length old.starts → length old.starts ≤ 2 ^ 64
    → IsRunningAs u.config_digest core (opened_as (vdevs_in is.shapes) (is_out (nobody old.starts)) none_stale 3 no_volumes) u []

-- such a pool was opened, well
pub record IsOpenedAs (digest : List ℕ) (p : Possible) (pools : Uberblock → PlainPool) (shapes : List VdevShape) (out : List Bool) (rewind : ℕ)
    (claimed : Uberblock) (core : CoreState) : Type 0 where
  pub well : IsOpenedWell p pools shapes out rewind claimed core
  pub runs : IsRunningAs digest core
      (opened_as (vdevs_in shapes) (is_out out) none_stale well.opened.claim.taken.group (pools well.opened.claim.taken)) claimed []

-- a pool that was opened with no disk out is one, if whatever the disks lead to has the configuration, and its core keeps the one that the claimed
-- uberblock names
abbrev pub OpenedPoolsRunAs : Type 0
OpenedPoolsRunAs =
    (old : Disks) (shapes : List VdevShape) (out : List Bool) (rewind : ℕ) (p : Possible) (pools : Uberblock → PlainPool) (claimed : Uberblock)
    (core : CoreState) (digest : List ℕ) → AreOfConfig digest p → LeadToPools old shapes out p pools → (is : IsOpenedOver old shapes out rewind claimed core)
    → is.later ≡ out → ((disk : ℕ) → is_out out disk ≡ false) → length old.starts ≤ 2 ^ 64 → NamesConfigOf claimed core → IsHonestSince old (disks_of core)
    → IsOpenedAs digest p pools shapes out rewind claimed core

-- and then what is possible behind a stop in that open has it too
abbrev pub StoppedOpensAreOfConfig : Type 0
StoppedOpensAreOfConfig =
    (p later : Possible) (rewind : ℕ) (digest : List ℕ) → AreOfConfig digest p → IsPossibleBehind p rewind later → AreOfConfig digest later

-- What a stop in it leaves shows the configuration of each of these, if the disks showed it and were bound to, and none showed four different ones.
abbrev pub StoppedOpensShowConfig : Type 0
StoppedOpensShowConfig =
    (digest : List ℕ) (old new : Disks) (shapes : List VdevShape) (out : List Bool) (rewind : ℕ) (p later : Possible) (pools : Uberblock → PlainPool)
    (images : List (List ℕ)) (u : Uberblock) (which : ℕ) → rewind < 3 → AreOfConfig digest p → LeadToPools old shapes out p pools
    → LeavesConfigured out old.starts digest old.calls → AreNotFour out old → AreShowing out old digest → IsKeptThrough out rewind old new → IsHonestSince old new
    → LeavesImages out old new images → IsPossibleBehind p rewind later → IsInReach later u → InUse out which
    → IsConfigured (length (bytes_of images which)) (content (fresh images) which) u.config_digest

-- So does what a stop in an export leaves, and what it leaves when it is done.
abbrev pub StoppedExportsShowConfig : Type 0
StoppedExportsShowConfig =
    (digest : List ℕ) (core : CoreState) (v : View) (last : Uberblock) (before : List Uberblock) (exported : Uberblock) (new : Disks) (images : List (List ℕ))
    (u : Uberblock) (which : ℕ) → IsRunningAs digest core v last before → IsExportBegun core exported new
    → LeavesImages core.commit.store.out (disks_of core) new images → IsInReach (only_last last before) u → InUse core.commit.store.out which
    → IsConfigured (length (bytes_of images which)) (content (fresh images) which) u.config_digest
