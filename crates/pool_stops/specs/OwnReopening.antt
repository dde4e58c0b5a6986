-- Pools are opened again on their own disks, handed in in any order.
use Rattle.std.specs.Prelude.{ℕ, ◌≡◌, ◌<◌, ◌≤◌, ◌^◌, Bool, [], List, length, map, Contains}
use Rattle.model_disk.specs.Joint.{Disks}
use Rattle.model_disk.specs.Runs.{AreSettled}
use Rattle.model_disk.specs.declared.disk.Disk as disk
use Rattle.raidz_io.specs.Reads.{IsHonestSince}
use Rattle.block_store.specs.Places.{shapes_of}
use Rattle.block_store.specs.declared.shape.VdevShape.{VdevShape}
use Rattle.uberblock_ring.specs.declared.uberblock.Uberblock.{Uberblock}
use Rattle.vdev_label.specs.Plain.{PlainVdev}
use Rattle.pool_create.specs.Calls.{GrewTo}
use Rattle.pool_create.specs.CommitState.{NoneIsOut}
use Rattle.pool_create.specs.CoreState.{CoreState, disks_of}
use Rattle.pool_labels.specs.declared.refusal.Refusal.{Refusal as LabelsRefusal}
use Rattle.pool_model.specs.Pools.{PlainPool}
use Rattle.pool_model.specs.View.{View}
use Rattle.pool_model.specs.declared.step.Reply.{Reply}
use Rattle.pool_model.specs.declared.step.Step.{Step}
use Rattle.pool_create.specs.OpenExporting.{IsExportBegun}
use Rattle.pool_create.specs.OpenFinding.{AreBack, FindRefuses, IsArrayOf}
use Rattle.pool_create.specs.OpenOpening.{IsKeptThrough}
use Rattle.pool_create.specs.OpenRefusal.{Refusal}
use Rattle.pool_create.specs.Opens.{AreInOrder, IsOpened, IsUnopened, OpenRefuses, refusal_of}
use Rattle.pool_create.specs.OpenStops.{fresh}
use Rattle.pool_create.specs.NotOpened.{NotOpened}
use Rattle.pool_create.specs.NotOpened.TheVariants.{NotFound, Refused}
use Rattle.pool_create.specs.OpenRefusal.TheVariants.{NoMemory}
use Rattle.pool_slots.specs.Commits.{only_last}
use Rattle.pool_slots.specs.Opens.{AreKnown, IsKnown}
use Rattle.pool_slots.specs.Possible.{Possible}
use Rattle.pool_format.specs.declared.labeling.PoolIdentity.{PoolIdentity}
use Rattle.pool_stops.specs.OneConfig.{AreOfConfig, IsOpenedAs, IsRunningAs, RunStopsAs}
use Rattle.pool_stops.specs.Reopening.{AreByGroup, IsPossibleBehind, LeavesImages}
use Rattle.pool_stops.specs.Running.{IsLastStep, pool_of}
use Rattle.pool_stops.specs.Unhindered.{AnswerTruly, HaveLeft, LeadToWholePools}
use Rattle.pool_stops.specs.Handed.{AllHold, AreHandedIn, AreShown}
use Rattle.pool_stops.specs.Own.{AreDisksOf, IsKnownAs}
use Rattle.pool_stops.specs.OwnRunning.{AreOfSum, IsOnItsDisks}
use Rattle.pool_stops.specs.Stopping.{AreLabelsUntorn}

-- Disks of a pool that lead to whole pools; what an open may come to has its configuration, and the sum of its guids.
pub record LeadToOwnPools (pool : PoolIdentity) (vdevs : List PlainVdev) (digest : List ℕ) (images : List (List ℕ)) (shapes : List VdevShape) (out : List Bool)
    (p : Possible) (pools : Uberblock → PlainPool) : Type 0 where
  pub are : AreDisksOf pool vdevs shapes out (fresh images)
  pub led : LeadToWholePools (fresh images) shapes out p pools
  pub one : AreOfConfig digest p
  pub sums : AreOfSum vdevs p

-- each byte of the disks is known, and nothing on them is unflushed
pub record AreSafe (disks : Disks) : Type 0 where
  pub known : (which : ℕ) → IsKnown disks which
  pub settled : AreSettled disks

-- the disks were called since the old moment, at which each byte of theirs was known
pub record GrewFromKnown (old new : Disks) : Type 0 where
  pub grew : GrewTo old new
  pub known : (which : ℕ) → IsKnown old which

module _ {D : Type 0} where
  -- The disks of a pool, which hold these bytes with nothing unflushed, are handed in, in this order.
  pub record AreReturned (g : disk.Ghosts D) (images : List (List ℕ)) (disks : List D) (order : List ℕ) : Type 0 where
    pub handed : List (List ℕ)
    pub handed_in : AreHandedIn images handed order
    pub hold : AllHold g handed disks

  -- These disks, which come back in this order, show some bytes and may be handed in again: nothing on them is unflushed.
  pub record ComeBack (g : disk.Ghosts D) (disks : Disks) (back : List D) (order : List ℕ) : Type 0 where
    pub images : List (List ℕ)
    pub shown : AreShown images disks
    pub returned : AreReturned g images back order

  -- an open of them that was refused: each of its answers was true, and none of its calls failed
  abbrev pub IsRefusedTruly : (g : disk.Ghosts D) (disks : List D) (rewind : ℕ) (failed : NotOpened D) → OpenRefuses g disks rewind failed → Type 0
  IsRefusedTruly g disks rewind (NotFound refusal back) (cause, same, it) = AnswerTruly it.old it.new
  IsRefusedTruly g disks rewind (Refused refusal back) it = AnswerTruly it.ordered.found.old it.ordered.found.new × AnswerTruly it.array it.new

  -- one that was done: the same, and no disk went out
  pub record IsOpenedTruly {g : disk.Ghosts D} {disks : List D} {rewind : ℕ} {claimed : Uberblock} {core : CoreState}
      (is : IsOpened g disks rewind claimed core) : Type 0 where
    pub found : AnswerTruly is.ordered.found.old is.ordered.found.new
    pub all : is.opened.last.later ≡ is.out
    pub honest : IsHonestSince is.array (disks_of core)

  -- Whatever the order in which such disks are handed in: an open that doesn't go back is refused for want of memory alone; one that is done gives a core
  -- of the pool of a possible group, or of one so many groups less, that runs on its own disks, and is known by the pool's name and guid, where each
  -- byte was known before; and wherever one is stopped behind the finding of its pool, which only reads, it leaves such disks again.
  pub record OpenAgain (g : disk.Ghosts D) (pool : PoolIdentity) (vdevs : List PlainVdev) (digest : List ℕ) (images : List (List ℕ)) (shapes : List VdevShape)
      (out : List Bool) (p : Possible) (pools : Uberblock → PlainPool) : Type 0 where
    pub refused : (disks : List D) (order : List ℕ) (failed : NotOpened D) → AreReturned g images disks order → HaveLeft out (fresh images)
        → (why : OpenRefuses g disks 0 failed) → IsRefusedTruly g disks 0 failed why → refusal_of failed ≡ NoMemory
    pub done : (disks : List D) (order : List ℕ) (rewind : ℕ) (claimed : Uberblock) (core : CoreState) → AreReturned g images disks order
        → (is : IsOpened g disks rewind claimed core) → IsOpenedTruly is → length images ≤ 2 ^ 64
        → IsOpenedAs digest p pools shapes out rewind claimed core × IsOnItsDisks pool vdevs core claimed []
        × IsKnownAs pool is.ordered.found.layout.identity × GrewFromKnown is.array (disks_of core)
    pub stopped : (disks : List D) (order : List ℕ) (rewind : ℕ) (array new : Disks) (its_shapes : List VdevShape) (its_out : List Bool)
        (left : List (List ℕ)) → rewind < 3 → AreByGroup pools → AreReturned g images disks order
        → (ordered : AreInOrder g disks rewind array its_shapes its_out) → AnswerTruly ordered.found.old ordered.found.new
        → IsKeptThrough its_out rewind array new → IsHonestSince array new → (leaves : LeavesImages its_out array new left)
        → AreLabelsUntorn array.starts leaves.calls left
        → (later : Possible) × IsPossibleBehind p rewind later × LeadToOwnPools pool vdevs digest left shapes out later pools
    -- where it was refused behind that, by no call that failed, nothing is unflushed;
    pub unopened : (disks back : List D) (order : List ℕ) (rewind : ℕ) (refusal : Refusal) → AreReturned g images disks order
        → (is : IsUnopened g disks rewind back refusal) → AnswerTruly is.ordered.found.old is.ordered.found.new → AnswerTruly is.array is.new
        → GrewFromKnown is.array is.new × AreSettled is.new
    -- and the disks that come back of it then or later, if they are as many, may be handed in again in their order
    pub back : (disks back : List D) (order : List ℕ) (rewind : ℕ) (array new : Disks) (its_shapes : List VdevShape) (its_out : List Bool)
        → AreReturned g images disks order → (ordered : AreInOrder g disks rewind array its_shapes its_out)
        → AnswerTruly ordered.found.old ordered.found.new → new.starts ≡ array.starts → AreBack g new ordered.places back → length back ≡ length disks
        → AreSafe new → ComeBack g new back order

  -- ---- laws

  -- Disks that weren't called yet may be handed in, with the bytes that they hold;
  abbrev pub UncalledDisksAreReturned : disk.Ghosts D → Type 0
  UncalledDisksAreReturned g =
      (images : List (List ℕ)) (disks : List D) (order : List ℕ) → AreHandedIn images (map g.start disks) order
      → ((d : D) → Contains disks d → g.calls d ≡ []) → AreReturned g images disks order

  -- and so may those that come back as no pool was found on them: they hold what they held.
  abbrev pub UnfoundDisksAreReturned : disk.Ghosts D → Type 0
  UnfoundDisksAreReturned g =
      (images : List (List ℕ)) (disks back : List D) (order : List ℕ) (rewind : ℕ) (cause : LabelsRefusal) → AreReturned g images disks order
      → FindRefuses g disks rewind back cause → AreReturned g images back order

  -- And so may those that come back of an array, as they stand in it.
  abbrev pub ArraysComeBack : disk.Ghosts D → Type 0
  ArraysComeBack g = (array : Disks) (disks : List D) → IsArrayOf g disks array → AreSafe array → (order : List ℕ) × ComeBack g array disks order

  -- Disks that lead to a pool of their own open again as `OpenAgain` says, in whatever order they are handed
  -- in; and wherever such an open is stopped they lead to one again.
  abbrev pub OwnPoolsOpenAgain : disk.Ghosts D → Type 0
  OwnPoolsOpenAgain g =
      (pool : PoolIdentity) (vdevs : List PlainVdev) (digest : List ℕ) (images : List (List ℕ)) (shapes : List VdevShape) (out : List Bool) (p : Possible)
      (pools : Uberblock → PlainPool) → LeadToOwnPools pool vdevs digest images shapes out p pools
      → OpenAgain g pool vdevs digest images shapes out p pools

-- What disks show is left by a stop that loses nothing: all that was written stands, and nothing is torn.
abbrev pub ShownImagesAreLeft : Type 0
ShownImagesAreLeft =
    (out : List Bool) (old new : Disks) (images : List (List ℕ)) → GrewTo old new → AreShown images new
    → (leaves : LeavesImages out old new images) × AreLabelsUntorn old.starts leaves.calls images

-- Wherever a run of a pool on its own disks is stopped, it leaves such disks,
abbrev pub StoppedRunsLeadToOwnPools : Type 0
StoppedRunsLeadToOwnPools =
    (pool : PoolIdentity) (vdevs : List PlainVdev) (old mid new : CoreState) (v between w : View) (steps : List Step) (replies : List Reply) (step : Step)
    (reply : Reply) (last : Uberblock) (before : List Uberblock) (digest : List ℕ) (images : List (List ℕ)) → IsRunningAs digest old v last before
    → IsOnItsDisks pool vdevs old last before → IsLastStep old mid new v between w steps replies step reply → NoneIsOut new.commit
    → LeavesImages mid.commit.store.out (disks_of mid) (disks_of new) images
    → (stops : RunStopsAs digest mid between new w)
    × LeadToOwnPools pool vdevs digest images (shapes_of mid.commit.store.spaces) mid.commit.store.out stops.at.steps.stops.p (pool_of between)

-- so it is wherever an open of such disks is stopped,
abbrev pub StoppedOpensLeadToOwnPools : Type 0
StoppedOpensLeadToOwnPools =
    (pool : PoolIdentity) (vdevs : List PlainVdev) (digest : List ℕ) (old new : Disks) (shapes : List VdevShape) (out : List Bool) (rewind : ℕ) (p : Possible)
    (pools : Uberblock → PlainPool) (images : List (List ℕ)) → rewind < 3 → AreByGroup pools → AreDisksOf pool vdevs shapes out old
    → LeadToWholePools old shapes out p pools → AreOfConfig digest p → AreOfSum vdevs p → IsKeptThrough out rewind old new → IsHonestSince old new → (leaves : LeavesImages out old new images)
    → AreLabelsUntorn old.starts leaves.calls images
    → (later : Possible) × IsPossibleBehind p rewind later × LeadToOwnPools pool vdevs digest images shapes out later pools

-- and wherever an export is stopped, and once it is done.
abbrev pub StoppedExportsLeadToOwnPools : Type 0
StoppedExportsLeadToOwnPools =
    (pool : PoolIdentity) (vdevs : List PlainVdev) (digest : List ℕ) (core : CoreState) (v : View) (last : Uberblock) (before : List Uberblock)
    (exported : Uberblock) (new : Disks) (images : List (List ℕ)) → IsRunningAs digest core v last before → IsOnItsDisks pool vdevs core last before
    → IsExportBegun core exported new → AreKnown core.commit.store.out (disks_of core) → IsHonestSince (disks_of core) new
    → (leaves : LeavesImages core.commit.store.out (disks_of core) new images) → AreLabelsUntorn (disks_of core).starts leaves.calls images
    → LeadToOwnPools pool vdevs digest images (shapes_of core.commit.store.spaces) core.commit.store.out (only_last last before) (pool_of v)
