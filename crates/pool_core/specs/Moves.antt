-- What a step does to what is committed and planned, and to the disks, byte for byte.
use Rattle.std.specs.Prelude.{ℕ, ◌≡◌, ◌⊎◌, []}
use Rattle.raidz_io.specs.Reads.{OnlyReads}
use Rattle.pool_model.specs.declared.step.Step.{Step}
use Rattle.pool_model.specs.declared.step.Step.TheVariants.{Plan, Device, DiskOut, Read, ReadUnder}
use Rattle.pool_commit.specs.Absence.{TakesOut}
use Rattle.pool_commit.specs.Reading.{OnlyReadsPool}
use Rattle.pool_commit.specs.State.{State, HasNoPlan, disks_of_state}
use Rattle.pool_commit.specs.Writing.{IsTimed, PlansFrom, WritesPlan}

-- a plan was made where there was none, with that timestamp, or was refused: disks were read
pub record ReadsAndPlans (timestamp : ℕ) (old new : State) : Type 0 where
  pub unplanned : HasNoPlan old
  pub reads : OnlyReads (disks_of_state old) (disks_of_state new)
  pub from : PlansFrom old new
  pub timed : IsTimed timestamp new

-- Plan reads, and may make a plan; Device writes the plan; DiskOut calls no disk, and leaves of a plan what is on other disks; the reads read; all
-- other steps change nothing, nor do those that are refused at once.
abbrev pub Moves : Step → State → State → Type 0
Moves (Plan timestamp) old new = (new ≡ old) ⊎ ReadsAndPlans timestamp old new
Moves Device old new = (new ≡ old) ⊎ WritesPlan old new
Moves (DiskOut disk) old new = (new ≡ old) ⊎ TakesOut disk old new
Moves (Read name offset len) old new = OnlyReadsPool old new []
Moves (ReadUnder group name offset len) old new = OnlyReadsPool old new []
Moves step old new = new ≡ old
