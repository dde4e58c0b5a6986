-- A pool on disks that outlive it: what comes of the commands of a schedule.
use Rattle.std.specs.Prelude.{◌≡◌, ◌⊎◌, ℕ, ◌≤◌, Bool, true, false, nat_le, List, map, length, Option, Some, None, option_map, if◌then◌else◌}
use Rattle.std.specs.List.{list_any}
use Rattle.model_disk.specs.Joint.{calls_on, log_of}
use Rattle.model_disk.specs.Member.{start_of, calls_of}
use Rattle.model_disk.specs.contracts.memory.MemDiskDisk.TheImpl.{ghosts}
use Rattle.model_disk.specs.declared.memory.MemDisk.{MemDisk}
use Rattle.model_disk.specs.declared.member.Member.{Member}
use Rattle.pool_create.specs.CoreState.{CoreState, disks_of}
use Rattle.pool_create.specs.CoreStateOf.{state_of as core_state}
use Rattle.pool_model.specs.declared.step.Step.{Step}
use Rattle.pool_model.specs.declared.step.Reply.{Reply}
use Rattle.pool_create.specs.Opens.{IsOpened, OpenRefuses, refusal_of}
use Rattle.pool_create.specs.NotOpened.{NotOpened}
use Rattle.schedule_lines.specs.declared.command.Command.{Command}
use Rattle.schedule_lines.specs.declared.command.Command.TheVariants.{Stop, Reopen}
use Rattle.schedule_lines.specs.declared.command.ReopenLine.{ReopenLine}
use Rattle.schedule_lines.specs.declared.command.StopPoint.{StopPoint}
use Rattle.schedule_lines.specs.declared.command.StopPoint.TheVariants.{Claim}
use Rattle.uberblock_ring.specs.declared.uberblock.Uberblock.{Uberblock}
use Rattle.programs.specs.declared.outcome.Outcome.{Outcome}
use Rattle.programs.specs.declared.outcome.Outcome.TheVariants.{Replied, StopIsSet, Stopped, Opened, Unopened}
use Rattle.programs.specs.declared.pool_on_disks.PoolOnDisks.{PoolOnDisks}
use Rattle.programs.specs.declared.stopping.Point.{Point}
use Rattle.programs.specs.Answers.{Begins, IsFirst, IsNoStep, runs_on}
use Rattle.programs.specs.ClaimStops.{AreKept, AreTold, EndsInClaim, ToldDisk, told_ghosts}
use Rattle.programs.specs.DisksKept.{AreCopies, present, put_back}
use Rattle.programs.specs.Outcomes.{Replies}
use Rattle.programs.specs.Runs.{StepsTruly}
use Rattle.programs.specs.Stops.{FallsShort, StopsAt, commit_point}

-- what a pool shows
pub record PoolState : Type 0 where
  pub core : Option CoreState  -- while it runs
  pub disks : List MemDisk  -- all of them, by number; behind those that a core has, what it doesn't read, until it is dropped
  pub absent : List ℕ  -- the numbers that are left out
  pub stop : Option StopPoint

-- what this pool shows
abbrev pub state_of : PoolOnDisks → PoolState
state_of pool = record { core = option_map core_state pool.core; disks = pool.disks.items; absent = pool.absent.items; stop = pool.stop }

-- ---- disks without a core

-- the children's disks as this core leaves them
pub record AreLeft (core : CoreState) (members : List (Member MemDisk)) : Type 0 where
  pub starts : map (start_of ghosts) members ≡ (disks_of core).starts
  pub calls : (which : ℕ) → log_of (map (calls_of ghosts) members) which ≡ calls_on which (disks_of core).calls

-- the core, where one ran, is dropped, and each disk that it had is in its place
abbrev pub Closes : Option CoreState → List MemDisk → List MemDisk → Type 0
Closes None old new = new ≡ old
Closes (Some core) old new = (members : List (Member MemDisk)) × AreLeft core members × (new ≡ put_back old members)

-- ---- commands that the core answers

-- where this command stops
abbrev pub point_of : PoolState → Command → Option Point
point_of pool command = if runs_on command then commit_point (length pool.disks) pool.absent pool.stop else None

-- no stop is set for it: its outcome is the reply of the core, which goes on from it
pub record RunsWhole (old : PoolState) (command : Command) (outcome : Outcome) (new : PoolState) : Type 0 where
  pub core : CoreState
  pub runs : old.core ≡ Some core
  pub endless : point_of old command ≡ None
  pub later : CoreState
  pub replies : Replies StepsTruly core command outcome later
  pub same : new ≡ record old { core = Some later }

-- one is set, but the commit ends before the point
pub record RunsShort (old : PoolState) (command : Command) (outcome : Outcome) (new : PoolState) : Type 0 where
  pub core : CoreState
  pub runs : old.core ≡ Some core
  pub point : Point
  pub set : point_of old command ≡ Some point
  pub first : Step
  pub begins : Begins command first
  pub last : Reply
  pub replied : outcome ≡ Replied last
  pub later : CoreState
  pub short : FallsShort StepsTruly point core first last later
  pub same : new ≡ record old { core = Some later }

-- the commit gets to the point; then the core is dropped, and the disks stay as they are
pub record StopsThere (old : PoolState) (command : Command) (outcome : Outcome) (new : PoolState) : Type 0 where
  pub core : CoreState
  pub runs : old.core ≡ Some core
  pub point : Point
  pub set : point_of old command ≡ Some point
  pub first : Step
  pub begins : Begins command first
  pub stopped : outcome ≡ Stopped
  pub later : CoreState
  pub stops : StopsAt StepsTruly point core first later
  pub disks : List MemDisk
  pub closes : Closes (Some later) old.disks disks
  pub same : new ≡ record { core = None; disks = disks; absent = old.absent; stop = None }

-- what comes of a command that takes steps: it runs whole, ends before a stop that is set, or stops there
abbrev pub TakesSteps : PoolState → Command → Outcome → PoolState → Type 0
TakesSteps old command outcome new = RunsWhole old command outcome new ⊎ (RunsShort old command outcome new ⊎ StopsThere old command outcome new)

-- ---- disks that are opened again

-- what is opened of disks that are handed in
abbrev pub Opens : List MemDisk → ℕ → Outcome → Option CoreState → Type 0
Opens disks rewind (Opened group claim) core =
    (it : CoreState) × (core ≡ Some it) × (claimed : Uberblock) × IsOpened ghosts disks rewind claimed it × (group ≡ claimed.group) × (claim ≡ claimed.claim)
Opens disks rewind (Unopened refusal) core =
    (core ≡ None) × (failed : NotOpened MemDisk) × (refusal ≡ refusal_of failed) × OpenRefuses ghosts disks rewind failed
Opens disks rewind _ core = ⊥

-- a stop in a claim is set, after so many disks
abbrev pub claim_stop : Option StopPoint → Option ℕ
claim_stop (Some (Claim disks)) = Some disks
claim_stop _ = None

-- The core is dropped, and what it hadn't committed. Copies of all disks but the absent ones are opened, where no stop in a claim is set, or they
-- are refused; all are kept.
pub record Reopens (old : PoolState) (line : ReopenLine) (outcome : Outcome) (new : PoolState) : Type 0 where
  pub disks : List MemDisk
  pub closes : Closes old.core old.disks disks
  pub copies : List MemDisk
  pub copied : AreCopies (present line.absent disks) copies
  pub core : Option CoreState
  pub opens : Opens copies line.rewind outcome core
  pub endless : (core ≡ None) ⊎ (claim_stop old.stop ≡ None)
  pub same : new ≡ record { core = core; disks = disks; absent = line.absent; stop = old.stop }

-- Of copies that fail in their claim, the first ones at a later write, the disks are kept as it leaves them.
pub record KeepsClaim (old : PoolState) (reached rewind : ℕ) (outcome : Outcome) (new : PoolState) : Type 0 where
  pub told : List ToldDisk
  pub are_told : AreTold reached 0 (present old.absent old.disks) told
  pub left : List (Member ToldDisk)
  pub ends : EndsInClaim told_ghosts told rewind left
  pub members : List (Member MemDisk)
  pub kept : AreKept left members
  pub stopped : outcome ≡ Stopped
  pub same : new ≡ record old { disks = put_back old.disks members; stop = None }

-- a pool that was opened goes on, or a stop in a claim is set
abbrev pub GoesOn : PoolState → CoreState → Uberblock → ℕ → Outcome → PoolState → Type 0
GoesOn old core claimed rewind outcome new =
    ((claim_stop old.stop ≡ None) × (outcome ≡ Opened claimed.group claimed.claim) × (new ≡ record old { core = Some core }))
    ⊎ ((reached : ℕ) × (claim_stop old.stop ≡ Some reached) × KeepsClaim old reached rewind outcome new)

-- The core is dropped, and copies of all disks but the absent ones would be opened; but a stop in a claim is set.
pub record StopsInClaim (old : PoolState) (line : ReopenLine) (outcome : Outcome) (new : PoolState) : Type 0 where
  pub disks : List MemDisk
  pub closes : Closes old.core old.disks disks
  pub copies : List MemDisk
  pub copied : AreCopies (present line.absent disks) copies
  pub core : CoreState
  pub claimed : Uberblock
  pub opens : IsOpened ghosts copies line.rewind claimed core
  pub reached : ℕ
  pub set : claim_stop old.stop ≡ Some reached
  pub keeps : KeepsClaim (record { core = None; disks = disks; absent = line.absent; stop = old.stop }) reached line.rewind outcome new

-- ---- commands

-- one of these numbers is that of no disk, where there are so many
abbrev pub names_no_disk : List ℕ → ℕ → Bool
names_no_disk numbers count = list_any (λ number. nat_le count number) numbers

-- what comes of a command, and the pool after it
abbrev pub ComesOf : PoolState → Command → Outcome → PoolState → Type 0
ComesOf old command outcome new =
    ((point : StopPoint) × (command ≡ Stop point) × (outcome ≡ StopIsSet) × (new ≡ record old { stop = Some point }))
    ⊎ (((line : ReopenLine) × (command ≡ Reopen line) × (names_no_disk line.absent (length old.disks) ≡ false)
    × (Reopens old line outcome new ⊎ StopsInClaim old line outcome new))
    ⊎ ((¬ IsNoStep command) × TakesSteps old command outcome new))

-- The commands that can't stand there: one for a first line; a step where nothing runs; and a reopening that goes back further than a line can say,
-- or leaves out a disk that isn't there.
abbrev pub CannotStand : PoolState → Command → Type 0
CannotStand pool command =
    IsFirst command
    ⊎ (((¬ IsNoStep command) × (pool.core ≡ None))
    ⊎ ((line : ReopenLine) × (command ≡ Reopen line) × ((3 ≤ line.rewind) ⊎ (names_no_disk line.absent (length pool.disks) ≡ true))))
