-- What a stop leaves of a pool on its own disks.
use Rattle.std.specs.Prelude.{ℕ, ◌<◌, Bool, List, length}
use Rattle.model_disk.specs.Joint.{Disks, JointCall, bytes_of}
use Rattle.model_disk.specs.Runs.{IsUntorn}
use Rattle.raidz_io.specs.Reads.{IsHonestSince}
use Rattle.block_store.specs.Places.{shapes_of}
use Rattle.block_store.specs.declared.shape.VdevShape.{VdevShape}
use Rattle.uberblock_ring.specs.declared.uberblock.Uberblock.{Uberblock}
use Rattle.vdev_label.specs.Plain.{PlainLabel, PlainVdev}
use Rattle.pool_create.specs.CoreState.{CoreState, disks_of}
use Rattle.pool_model.specs.Pools.{PlainPool}
use Rattle.pool_model.specs.View.{View}
use Rattle.pool_create.specs.OpenExporting.{IsExportBegun}
use Rattle.pool_create.specs.OpenOpening.{IsKeptThrough}
use Rattle.pool_create.specs.OpenStops.{fresh}
use Rattle.pool_slots.specs.Configs.{AreNotFour, LeavesConfigured}
use Rattle.pool_slots.specs.Labels.{IsValid, area_place, inscribed}
use Rattle.pool_slots.specs.Opens.{AreKnown}
use Rattle.pool_slots.specs.Possible.{Possible}
use Rattle.pool_format.specs.declared.labeling.PoolIdentity.{PoolIdentity}
use Rattle.pool_stops.specs.OneConfig.{AreOfConfig, IsRunningAs, RunStopsAs}
use Rattle.pool_stops.specs.Reopening.{IsPossibleBehind, LeavesImages}
use Rattle.pool_stops.specs.Unhindered.{AreAllThere, LeadToWholePools}
use Rattle.pool_stops.specs.Own.{AreDisksOf}
use Rattle.pool_stops.specs.OwnRunning.{AreOfSum, IsOnItsDisks, StopsOnItsDisks}

-- What a stop tears in labels doesn't read as a label by chance: one that the images show stood in its area at the last flush, or was written
-- there since.
abbrev pub AreLabelsUntorn : List (List ℕ) → List JointCall → List (List ℕ) → Type 0
AreLabelsUntorn starts calls images =
    (which number : ℕ) (l : PlainLabel) → which < length starts → number < 4 → IsValid l
    → IsUntorn starts calls images which (area_place (length (bytes_of starts which)) number) (inscribed l)

-- ---- laws

-- Own disks don't show four different configurations,
abbrev pub OwnDisksShowAtMostThreeConfigurations : Type 0
OwnDisksShowAtMostThreeConfigurations =
    (pool : PoolIdentity) (vdevs : List PlainVdev) (shapes : List VdevShape) (out : List Bool) (disks : Disks) → AreDisksOf pool vdevs shapes out disks
    → AreNotFour out disks

-- and disks that lead to whole pools are bound to show the configuration of what an open may come to.
abbrev pub PossibleConfigurationsAreShown : Type 0
PossibleConfigurationsAreShown =
    (digest : List ℕ) (disks : Disks) (shapes : List VdevShape) (out : List Bool) (p : Possible) (pools : Uberblock → PlainPool)
    → AreAllThere disks.starts shapes out → LeadToWholePools disks shapes out p pools → AreOfConfig digest p
    → LeavesConfigured out disks.starts digest disks.calls

-- A stop in the last step of a run leaves the pool's own disks.
abbrev pub StoppedRunsLeaveDisks : Type 0
StoppedRunsLeaveDisks =
    (pool : PoolIdentity) (vdevs : List PlainVdev) (digest : List ℕ) (mid : CoreState) (between : View) (new : CoreState) (w : View) (images : List (List ℕ))
    → (stops : RunStopsAs digest mid between new w) → StopsOnItsDisks pool vdevs stops
    → LeavesImages mid.commit.store.out (disks_of mid) (disks_of new) images
    → AreDisksOf pool vdevs (shapes_of mid.commit.store.spaces) mid.commit.store.out (fresh images)

-- So does one in an open of its own disks, if what it tears in labels doesn't read as one by chance.
abbrev pub StoppedOpensLeaveDisks : Type 0
StoppedOpensLeaveDisks =
    (pool : PoolIdentity) (vdevs : List PlainVdev) (digest : List ℕ) (old new : Disks) (shapes : List VdevShape) (out : List Bool) (rewind : ℕ) (p : Possible)
    (pools : Uberblock → PlainPool) (images : List (List ℕ)) → rewind < 3 → AreDisksOf pool vdevs shapes out old
    → LeadToWholePools old shapes out p pools → AreOfConfig digest p → IsKeptThrough out rewind old new → IsHonestSince old new
    → (leaves : LeavesImages out old new images) → AreLabelsUntorn old.starts leaves.calls images → AreDisksOf pool vdevs shapes out (fresh images)

-- and whatever is possible then has the sum of the guids
abbrev pub StoppedOpensAreOfSum : Type 0
StoppedOpensAreOfSum =
    (vdevs : List PlainVdev) (p later : Possible) (rewind : ℕ) → AreOfSum vdevs p → IsPossibleBehind p rewind later → AreOfSum vdevs later

-- And so does one in an export of a pool that runs on them, or one after it, where each byte was known.
abbrev pub StoppedExportsLeaveDisks : Type 0
StoppedExportsLeaveDisks =
    (pool : PoolIdentity) (vdevs : List PlainVdev) (digest : List ℕ) (core : CoreState) (v : View) (last : Uberblock) (before : List Uberblock)
    (exported : Uberblock) (new : Disks) (images : List (List ℕ)) → IsRunningAs digest core v last before → IsOnItsDisks pool vdevs core last before
    → IsExportBegun core exported new → AreKnown core.commit.store.out (disks_of core) → IsHonestSince (disks_of core) new
    → (leaves : LeavesImages core.commit.store.out (disks_of core) new images) → AreLabelsUntorn (disks_of core).starts leaves.calls images
    → AreDisksOf pool vdevs (shapes_of core.commit.store.spaces) core.commit.store.out (fresh images)
