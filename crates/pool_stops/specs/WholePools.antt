-- Wherever a pool with one configuration is stopped, its disks lead to whole pools, and an open of them that nothing hinders isn't refused.
use Rattle.std.specs.Prelude.{ℕ, ◌≡◌, ◌<◌, Bool, List, length}
use Rattle.model_disk.specs.Joint.{Disks}
use Rattle.raidz_io.specs.Reads.{IsHonestSince}
use Rattle.block_store.specs.Places.{shapes_of}
use Rattle.block_store.specs.declared.shape.VdevShape.{VdevShape}
use Rattle.uberblock_ring.specs.declared.uberblock.Uberblock.{Uberblock}
use Rattle.pool_create.specs.CommitState.{NoneIsOut}
use Rattle.pool_create.specs.CoreState.{CoreState, disks_of}
use Rattle.pool_model.specs.Pools.{PlainPool}
use Rattle.pool_model.specs.View.{View}
use Rattle.pool_model.specs.declared.step.Reply.{Reply}
use Rattle.pool_model.specs.declared.step.Step.{Step}
use Rattle.pool_create.specs.OpenExporting.{IsExportBegun}
use Rattle.pool_create.specs.OpenOpening.{IsKeptThrough, IsNotOpenedOver}
use Rattle.pool_create.specs.OpenStops.{fresh}
use Rattle.pool_create.specs.OpenRefusal.{Refusal}
use Rattle.pool_create.specs.OpenRefusal.TheVariants.{NoMemory}
use Rattle.pool_slots.specs.Commits.{only_last}
use Rattle.pool_slots.specs.Configs.{AreNotFour, LeavesConfigured}
use Rattle.pool_slots.specs.Possible.{Possible}
use Rattle.pool_stops.specs.OneConfig.{AreOfConfig, IsRunningAs, RunStopsAs}
use Rattle.pool_stops.specs.Reopening.{AreByGroup, IsPossibleBehind, LeavesImages}
use Rattle.pool_stops.specs.Running.{IsLastStep, pool_of}
use Rattle.pool_stops.specs.Unhindered.{AreAllThere, IsUnhindered, LeadToWholePools}

-- what a stop in the last step of a run leaves
abbrev pub StoppedRunsLeadWhole : Type 0
StoppedRunsLeadWhole =
    (digest : List ℕ) (mid : CoreState) (between : View) (new : CoreState) (w : View) (images : List (List ℕ)) → (stops : RunStopsAs digest mid between new w)
    → LeavesImages mid.commit.store.out (disks_of mid) (disks_of new) images
    → LeadToWholePools (fresh images) (shapes_of mid.commit.store.spaces) mid.commit.store.out stops.at.steps.stops.p (pool_of between)

-- what a stop in an open of such disks leaves, if they were bound to show the configuration, and none showed four different ones
abbrev pub StoppedOpensLeadWhole : Type 0
StoppedOpensLeadWhole =
    (digest : List ℕ) (old new : Disks) (shapes : List VdevShape) (out : List Bool) (rewind : ℕ) (p : Possible) (pools : Uberblock → PlainPool)
    (images : List (List ℕ)) → rewind < 3 → length out ≡ length old.starts → AreByGroup pools → AreOfConfig digest p
    → LeadToWholePools old shapes out p pools → LeavesConfigured out old.starts digest old.calls → AreNotFour out old
    → IsKeptThrough out rewind old new → IsHonestSince old new → LeavesImages out old new images
    → (later : Possible) × IsPossibleBehind p rewind later × LeadToWholePools (fresh images) shapes out later pools

-- what a stop in an export leaves, and what it leaves when it is done
abbrev pub StoppedExportsLeadWhole : Type 0
StoppedExportsLeadWhole =
    (digest : List ℕ) (core : CoreState) (v : View) (last : Uberblock) (before : List Uberblock) (exported : Uberblock) (new : Disks) (images : List (List ℕ))
    → IsRunningAs digest core v last before → IsExportBegun core exported new → LeavesImages core.commit.store.out (disks_of core) new images
    → LeadToWholePools (fresh images) (shapes_of core.commit.store.spaces) core.commit.store.out (only_last last before) (pool_of v)

-- Wherever a run is stopped, an open of what is left that nothing hinders is refused for want of memory alone.
abbrev pub StoppedRunsReopen : Type 0
StoppedRunsReopen =
    (old mid new : CoreState) (v between w : View) (steps : List Step) (replies : List Reply) (step : Step) (reply : Reply) (last : Uberblock)
    (before : List Uberblock) (digest : List ℕ) (images : List (List ℕ)) (refusal : Refusal) → IsRunningAs digest old v last before
    → IsLastStep old mid new v between w steps replies step reply → NoneIsOut new.commit
    → LeavesImages mid.commit.store.out (disks_of mid) (disks_of new) images
    → (guids : List ℕ) (back : Disks) → IsNotOpenedOver guids (fresh images) (shapes_of mid.commit.store.spaces) mid.commit.store.out 0 back refusal
    → IsUnhindered (fresh images) back mid.commit.store.out → refusal ≡ NoMemory

-- So it is wherever an open of such disks is stopped,
abbrev pub StoppedOpensReopen : Type 0
StoppedOpensReopen =
    (digest : List ℕ) (old new : Disks) (shapes : List VdevShape) (out : List Bool) (rewind : ℕ) (p : Possible) (pools : Uberblock → PlainPool)
    (images : List (List ℕ)) (refusal : Refusal) → rewind < 3 → AreAllThere old.starts shapes out → AreByGroup pools → AreOfConfig digest p
    → LeadToWholePools old shapes out p pools → LeavesConfigured out old.starts digest old.calls → AreNotFour out old
    → IsKeptThrough out rewind old new → IsHonestSince old new → LeavesImages out old new images
    → (guids : List ℕ) (back : Disks) → IsNotOpenedOver guids (fresh images) shapes out 0 back refusal → IsUnhindered (fresh images) back out → refusal ≡ NoMemory

-- and wherever an export is stopped, and once it is done.
abbrev pub StoppedExportsReopen : Type 0
StoppedExportsReopen =
    (digest : List ℕ) (core : CoreState) (v : View) (last : Uberblock) (before : List Uberblock) (exported : Uberblock) (new : Disks) (images : List (List ℕ))
    (refusal : Refusal) → IsRunningAs digest core v last before → IsExportBegun core exported new
    → LeavesImages core.commit.store.out (disks_of core) new images
    → (guids : List ℕ) (back : Disks) → IsNotOpenedOver guids (fresh images) (shapes_of core.commit.store.spaces) core.commit.store.out 0 back refusal
    → IsUnhindered (fresh images) back core.commit.store.out → refusal ≡ NoMemory
