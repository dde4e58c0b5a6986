-- A pool that runs, with no disk out: where its disks stand between two steps, and what they lead to wherever a step is stopped.
use Rattle.std.specs.Prelude.{ℕ, suc, ◌≡◌, ◌⊎◌, ◌<◌, ◌==◌, if◌then◌else◌, List, ◌∷◌, length, Option, Some, None, Contains}
use Rattle.model_disk.specs.Joint.{Disks}
use Rattle.block_store.specs.Places.{shapes_of}
use Rattle.uberblock_ring.specs.declared.uberblock.Uberblock.{Uberblock}
use Rattle.pool_create.specs.KeptGroup.{KeptGroup}
use Rattle.pool_create.specs.CommitPlanned.{Planned}
use Rattle.pool_create.specs.Backs.{pool_after}
use Rattle.pool_create.specs.Config.{vdevs_of}
use Rattle.pool_create.specs.CommitState.{NoneIsOut, State, group_at}
use Rattle.pool_create.specs.Represents.{Represents}
use Rattle.pool_create.specs.Moves.{Moves}
use Rattle.pool_create.specs.CoreRuns.{Chain}
use Rattle.pool_create.specs.CoreState.{CoreState}
use Rattle.pool_create.specs.CoreState.{disks_of as disks_in}
use Rattle.pool_create.specs.CoreSteps.{Link}
use Rattle.pool_create.specs.Spans.{HaveNoSpans, NoneIsStale}
use Rattle.pool_model.specs.Pools.{PlainPool}
use Rattle.pool_model.specs.View.{Given, View, disks_of}
use Rattle.pool_model.specs.declared.step.Reply.{Reply}
use Rattle.pool_model.specs.declared.step.Step.{Step}
use Rattle.pool_create.specs.Trees.{IsTreeOf}
use Rattle.pool_create.specs.Words.{stamp_of}
use Rattle.pool_slots.specs.Commits.{AreOffLabels, LeadAlways, last_or, only_last}
use Rattle.pool_slots.specs.Phases.{AreInBlocks}
use Rattle.pool_slots.specs.Possible.{IsInReach, Possible, Trees}
use Rattle.pool_slots.specs.Slots.{AreSettled}
use Rattle.volume_rules.specs.NowMoves.{IsMadeBy}
use Rattle.pool_stops.specs.Phases.{IsInPhase}
use Rattle.pool_stops.specs.Standing.{LieBesideLabels, filled_trees}
use Rattle.pool_stops.specs.Whole.{IsWholeTree}

-- ---- between two steps

-- no disk is out or missed a group, each is one of a vdev's, and there are some; no block lies on labels
pub record IsWhole (s : State) : Type 0 where
  pub none : NoneIsOut s
  pub fresh : NoneIsStale s
  pub untouched : HaveNoSpans s
  pub count : length s.store.out ≡ length s.store.disks.starts
  pub some : 0 < length s.store.disks.starts
  pub covered : (disk : ℕ) → disk < length s.store.disks.starts → Contains (disks_of (vdevs_of s.store.spaces)) disk
  pub lie : LieBesideLabels s.store.disks.starts s.store.spaces

-- the uberblock is that of a kept group, with this stamp, whose volumes were made by it or by earlier groups
pub record IsOfKept (s : State) (v : View) (u : Uberblock) : Type 0 where
  pub kept : KeptGroup
  pub is : group_at s.kept u.group ≡ Some kept
  pub root : kept.root ≡ Some u.root
  pub stamped : stamp_of u ≡ s.stamp
  pub made : IsMadeBy u.group (v.pools u.group)

-- With no plan nothing is unflushed.
pub record IsBetween (s : State) (last : Uberblock) (before : List Uberblock) : Type 0 where
  pub blocks : AreInBlocks (filled_trees s.store.spaces s.store.disks) s.store.out s.store.disks last before
  pub settled : AreSettled s.store.out s.store.disks.calls

-- between commits, and while a plan's blocks are written, the disks lead to the last uberblock; once its slots are, to that or the plan's
abbrev pub StandAt : State → Option Planned → Uberblock → List Uberblock → Type 0
StandAt s None last before = IsBetween s last before
StandAt s (Some plan) last before = IsInPhase s plan last before

-- The committed group has this uberblock, behind those. An open that goes back from it comes to none but kept groups.
pub record IsRunning (s : CoreState) (v : View) (last : Uberblock) (before : List Uberblock) : Type 0 where
  pub represents : Represents s v
  pub whole : IsWhole s.commit
  pub claim : last.claim ≡ s.commit.stamp.claim
  pub group : last.group ≡ v.committed
  pub lower : (u : Uberblock) → Contains before u → u.claim ≡ last.claim → u.group < last.group
  pub kept : (u : Uberblock) → IsInReach (only_last last before) u → IsOfKept s.commit v u
  pub stand : StandAt s.commit s.commit.planned last before

-- ---- wherever a step is stopped

-- the pool of an uberblock: of a group up to the committed one, or of that which is planned
abbrev pub pool_of : View → Uberblock → PlainPool
pool_of v u = if u.group == suc v.committed then pool_after v else v.pools u.group

-- the committed group's uberblock, or that or the plan's
abbrev pub IsPossibleOf : State → Uberblock → List Uberblock → Possible → Type 0
IsPossibleOf s last before p =
    (p ≡ only_last last before) ⊎ ((plan : Planned) × (s.planned ≡ Some plan) × (p ≡ last_or last before plan.uberblock))

-- Stopped at any moment up to the new one, the disks lead to one of these uberblocks, and below the root of each is the whole tree of its pool.
pub record StopsAt (s : State) (v : View) (new : Disks) (last : Uberblock) (before : List Uberblock) : Type 0 where
  pub p : Possible
  pub which : IsPossibleOf s last before p
  pub trees : Trees
  pub off_labels : AreOffLabels trees s.store.out s.store.disks.starts
  pub always : LeadAlways trees s.store.out s.store.disks new p
  pub tree : (u : Uberblock) → IsInReach p u → IsTreeOf trees s.store.disks.starts (shapes_of s.store.spaces) s.store.out u (pool_of v u)
  pub whole : (u : Uberblock) → (reach : IsInReach p u) → IsWholeTree (tree u reach)

-- ---- laws

-- behind the step the last uberblock is the same, or the plan's behind it
abbrev pub IsNextOf : State → Uberblock → List Uberblock → Uberblock → List Uberblock → Type 0
IsNextOf s last before later earlier =
    ((later ≡ last) × (earlier ≡ before)) ⊎ ((plan : Planned) × (s.planned ≡ Some plan) × (later ≡ plan.uberblock) × (earlier ≡ last ∷ before))

-- A step of a pool that runs, where no disk goes out, is stopped well; and the pool runs on.
pub record StepsOn (old : CoreState) (v : View) (new : CoreState) (w : View) (last : Uberblock) (before : List Uberblock) : Type 0 where
  pub later : Uberblock
  pub earlier : List Uberblock
  pub next : IsNextOf old.commit last before later earlier
  pub runs : IsRunning new w later earlier
  pub stops : StopsAt old.commit v (disks_in new) last before

-- A pool that runs with no disk out runs on with each step in which none goes out. Stopped at any moment of
-- it, its disks lead to the last committed group, or from the slots on to that or the planned one.
abbrev pub RunningPoolsStepOn : Type 0
RunningPoolsStepOn =
    (old new : CoreState) (v w : View) (step : Step) (given : Given) (reply : Reply) (last : Uberblock) (before : List Uberblock)
    → IsRunning old v last before → Link old v step given reply new w → Moves step old.commit new.commit → NoneIsOut new.commit
    → StepsOn old v new w last before

-- the last step of a run, from the chain before it
pub record IsLastStep (old mid new : CoreState) (v between w : View) (steps : List Step) (replies : List Reply) (step : Step) (reply : Reply) : Type 0 where
  pub givens : List Given
  pub before : Chain old v steps givens replies mid between
  pub given : Given
  pub link : Link mid between step given reply new w
  pub moves : Moves step mid.commit new.commit

-- So each step of a run is stopped well, as long as no disk is out by its end: the pool runs up to it, and on behind it.
pub record RunStopsAt (mid : CoreState) (between : View) (new : CoreState) (w : View) : Type 0 where
  pub last : Uberblock
  pub earlier : List Uberblock
  pub runs : IsRunning mid between last earlier
  pub steps : StepsOn mid between new w last earlier

-- so it is of each step of a run, where no disk is out by the end of that step
abbrev pub RunsStopWell : Type 0
RunsStopWell =
    (old mid new : CoreState) (v between w : View) (steps : List Step) (replies : List Reply) (step : Step) (reply : Reply) (last : Uberblock) (before : List Uberblock)
    → IsRunning old v last before → IsLastStep old mid new v between w steps replies step reply → NoneIsOut new.commit → RunStopsAt mid between new w

-- where no disk is out at the end of a run, none was before
abbrev pub NoneWasOut : Type 0
NoneWasOut =
    (old new : CoreState) (v w : View) (steps : List Step) (givens : List Given) (replies : List Reply) → Chain old v steps givens replies new w
    → NoneIsOut new.commit → NoneIsOut old.commit
