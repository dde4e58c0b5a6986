-- Disks that a stop leaves, and what an open makes of them.
use Rattle.std.specs.Prelude.{ℕ, ◌≡◌, ◌≤◌, ◌⊎◌, ◌^◌, Bool, false, List, [], length}
use Rattle.model_disk.specs.Joint.{Disks, JointCall, MayLeaveAll}
use Rattle.model_disk.specs.Runs.{IsMoment}
use Rattle.raidz_io.specs.Reads.{IsHonestSince}
use Rattle.block_store.specs.Places.{shapes_of}
use Rattle.block_store.specs.Store.{is_out}
use Rattle.block_store.specs.declared.shape.VdevShape.{VdevShape}
use Rattle.uberblock_ring.specs.declared.uberblock.Uberblock.{Uberblock}
use Rattle.pool_create.specs.CommitState.{NoneIsOut, State}
use Rattle.pool_create.specs.CoreState.{CoreState, disks_of}
use Rattle.pool_model.specs.Pools.{PlainPool}
use Rattle.pool_model.specs.View.{View, none_stale, opened_as}
use Rattle.pool_model.specs.declared.step.Reply.{Reply}
use Rattle.pool_model.specs.declared.step.Step.{Step}
use Rattle.pool_create.specs.OpenExporting.{IsExportBegun}
use Rattle.pool_create.specs.OpenOpening.{IsKeptThrough, IsOpenedOver}
use Rattle.pool_create.specs.OpenStops.{fresh}
use Rattle.pool_create.specs.Trees.{IsOpenedFor, IsTreeOf, NamesConfigOf}
use Rattle.pool_create.specs.Words.{vdevs_in}
use Rattle.pool_slots.specs.Commits.{only_last}
use Rattle.pool_slots.specs.Opens.{CanOpen, IsClaimOf, also_begun}
use Rattle.pool_slots.specs.Possible.{IsInReach, Possible, Trees}
use Rattle.pool_slots.specs.Slots.{AreUntorn}
use Rattle.pool_stops.specs.Running.{IsLastStep, IsPossibleOf, IsRunning, IsWhole, StopsAt, pool_of}

-- a stop at some moment since the old one leaves these images, in which no torn slot reads as an uberblock by chance
pub record LeavesImages (out : List Bool) (old new : Disks) (images : List (List ℕ)) : Type 0 where
  pub calls : List JointCall
  pub moment : IsMoment (length old.calls) new.calls calls
  pub left : MayLeaveAll old.starts calls images
  pub untorn : AreUntorn out old.starts calls images

-- Disks that may be opened: they lead to one of the possible uberblocks, and below the root of each that an open may come to is the tree of
-- its pool.
pub record LeadToPools (disks : Disks) (shapes : List VdevShape) (out : List Bool) (p : Possible) (pools : Uberblock → PlainPool) : Type 0 where
  pub trees : Trees
  pub can : CanOpen trees out disks p
  pub tree : (u : Uberblock) → IsInReach p u → IsTreeOf trees disks.starts shapes out u (pools u)

-- the pool is told by the uberblock's group alone
abbrev pub AreByGroup : (Uberblock → PlainPool) → Type 0
AreByGroup pools = (u other : Uberblock) → u.group ≡ other.group → pools u ≡ pools other

-- ---- laws

-- Wherever a step of a pool that runs is stopped, its disks may be opened, and lead to the pool of the committed group or of the one whose slots
-- were begun.
abbrev pub StoppedStepsLead : Type 0
StoppedStepsLead =
    (s : State) (v : View) (new : Disks) (last : Uberblock) (before : List Uberblock) (images : List (List ℕ)) → IsWhole s → (stops : StopsAt s v new last before)
    → LeavesImages s.store.out s.store.disks new images → LeadToPools (fresh images) (shapes_of s.store.spaces) s.store.out stops.p (pool_of v)

-- what is possible behind a stop in an open: what was before, or a claim of it too
abbrev pub IsPossibleBehind : Possible → ℕ → Possible → Type 0
IsPossibleBehind p rewind later = (later ≡ p) ⊎ ((u : Uberblock) × IsClaimOf p rewind u × (later ≡ also_begun u p))

-- So it is wherever an open of them is stopped, whether it was answered or refused, if its answers were true.
abbrev pub StoppedOpensLead : Type 0
StoppedOpensLead =
    (old new : Disks) (shapes : List VdevShape) (out : List Bool) (rewind : ℕ) (p : Possible) (pools : Uberblock → PlainPool) (images : List (List ℕ))
    → length out ≡ length old.starts → AreByGroup pools → LeadToPools old shapes out p pools → IsKeptThrough out rewind old new → IsHonestSince old new
    → LeavesImages out old new images → (later : Possible) × IsPossibleBehind p rewind later × LeadToPools (fresh images) shapes out later pools

-- An open of them that is done, with no disk out, and a core that keeps the configuration that the claimed uberblock names, gives a core of the pool of one of these, or of a group so many below; and the pool runs on.
pub record IsOpenedWell (p : Possible) (pools : Uberblock → PlainPool) (shapes : List VdevShape) (out : List Bool) (rewind : ℕ) (claimed : Uberblock) (core : CoreState)
    : Type 0 where
  pub opened : IsOpenedFor p pools shapes out rewind claimed core
  pub runs : IsRunning core (opened_as (vdevs_in shapes) (is_out out) none_stale opened.claim.taken.group
      (pools opened.claim.taken)) claimed []

-- An open of disks that lead to pools, where all are in use and answers were true, gives a core of one of
-- these pools, or of that of a group so many below, and it runs on.
abbrev pub LedDisksOpen : Type 0
LedDisksOpen =
    (old : Disks) (shapes : List VdevShape) (out : List Bool) (rewind : ℕ) (p : Possible) (pools : Uberblock → PlainPool) (claimed : Uberblock) (core : CoreState)
    → LeadToPools old shapes out p pools → (is : IsOpenedOver old shapes out rewind claimed core) → is.later ≡ out → ((disk : ℕ) → is_out out disk ≡ false)
    → length old.starts ≤ 2 ^ 64 → NamesConfigOf claimed core → IsHonestSince old (disks_of core) → IsOpenedWell p pools shapes out rewind claimed core

-- Wherever an export of a pool that runs is stopped, and once it is done: what is left may be opened, and leads to the pool of the committed group.
abbrev pub StoppedExportsLead : Type 0
StoppedExportsLead =
    (core : CoreState) (v : View) (last : Uberblock) (before : List Uberblock) (u : Uberblock) (new : Disks) (images : List (List ℕ)) → IsRunning core v last before
    → IsExportBegun core u new → LeavesImages core.commit.store.out (disks_of core) new images
    → LeadToPools (fresh images) (shapes_of core.commit.store.spaces) core.commit.store.out (only_last last before) (pool_of v)

-- ---- the whole

-- all disks that a stop left were opened, they answered truly, and the core keeps the configuration that the claimed uberblock names
pub record IsReopened (images : List (List ℕ)) (s : State) (rewind : ℕ) (claimed : Uberblock) (core : CoreState) : Type 0 where
  pub opened : IsOpenedOver (fresh images) (shapes_of s.store.spaces) s.store.out rewind claimed core
  pub all : opened.later ≡ s.store.out
  pub few : length images ≤ 2 ^ 64
  pub named : NamesConfigOf claimed core
  pub honest : IsHonestSince (fresh images) (disks_of core)

-- Then the core represents the pool of the last committed group or of the one whose slots were begun, or where it goes back that of a group so many
-- less; and it runs on.
pub record Outlives (mid : CoreState) (between : View) (rewind : ℕ) (claimed : Uberblock) (core : CoreState) : Type 0 where
  pub last : Uberblock
  pub before : List Uberblock
  pub runs : IsRunning mid between last before
  pub p : Possible
  pub which : IsPossibleOf mid.commit last before p
  pub opened : IsOpenedWell p (pool_of between) (shapes_of mid.commit.store.spaces) mid.commit.store.out rewind claimed core

-- A pool that runs outlives a stop at any moment of any step of a run, as long as no disk is out.
abbrev pub RunsOutliveStops : Type 0
RunsOutliveStops =
    (old mid new : CoreState) (v between w : View) (steps : List Step) (replies : List Reply) (step : Step) (reply : Reply) (last : Uberblock) (before : List Uberblock)
    (images : List (List ℕ)) (rewind : ℕ) (claimed : Uberblock) (core : CoreState)
    → IsRunning old v last before → IsLastStep old mid new v between w steps replies step reply → NoneIsOut new.commit
    → LeavesImages mid.commit.store.out (disks_of mid) (disks_of new) images → IsReopened images mid.commit rewind claimed core
    → Outlives mid between rewind claimed core
