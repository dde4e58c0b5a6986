-- How a schedule ends of which threads run a part.
use Rattle.std.specs.Prelude.{◌≡◌, ◌⊎◌, ℕ, ◌+◌, List, [], length, false, Option, Some, None}
use Rattle.std.specs.Io.KnownBytes.{IsAtEnd}
use Rattle.pool_create.specs.CoreState.{CoreState}
use Rattle.pool_model.specs.declared.refusal.Refusal.{Refusal as Cause}
use Rattle.schedule_lines.specs.declared.command.Command.{Command}
use Rattle.schedule_lines.specs.declared.command.PoolLine.{PoolLine}
use Rattle.programs.specs.declared.outcome.Outcome.{Outcome}
use Rattle.programs.specs.declared.refusal.Refusal.{Refusal}
use Rattle.programs.specs.declared.refusal.Refusal.TheVariants.{Line as LineFault}
use Rattle.programs.specs.declared.status.ExitStatus.{ExitStatus}
use Rattle.programs.specs.declared.status.ExitStatus.TheVariants.{Done, Fault}
use Rattle.programs.specs.Reads.{commands_of}
use Rattle.thread_schedules.specs.declared.stage.Stage.{Stage}
use Rattle.thread_schedules.specs.Inputs.{IsBack, IsFront, ReadsThreads, StopsInBack, StopsInFront}
use Rattle.thread_schedules.specs.Kinds.{AreThreadLines, may_follow}
use Rattle.thread_schedules.specs.Runs.{PrintsRuns}
use Rattle.thread_schedules.specs.Stages.{core_at}

-- what can't stand behind `threads` and these commands: any command where no pool runs
abbrev pub CannotFollow : Option CoreState → List Command → Command → Type 0
CannotFollow None commands command = Unit {0}
CannotFollow (Some core) commands command = may_follow commands command ≡ false

-- what is printed of the commands behind `threads`
abbrev pub RunsBehind : Option CoreState → List Command → Option (List ℕ) → Option (List ℕ) → Type 0
RunsBehind None commands old new = (commands ≡ []) × (old ≡ new)
RunsBehind (Some core) commands old new = AreThreadLines commands × PrintsRuns core old new

module _ {P : Type 0} (Creates : PoolLine → P → Type 0) (Refuses : PoolLine → Cause → Type 0) (Outcomes : P → Command → Outcome → P → Type 0) where
  -- The lines of the input were run to the end: those before `threads` are recounted, and threads ran those behind it.
  pub record RunsInThreads (core_of : P → Option CoreState) (input old new : Option (List ℕ)) : Type 0 where
    pub stage : Stage P
    pub marked : Option (List ℕ)
    pub told : Option (List ℕ)
    pub front : IsFront Creates Refuses Outcomes input old stage marked told
    pub behind : Option (List ℕ)
    pub threads : ReadsThreads marked behind
    pub end : Option (List ℕ)
    pub back : IsBack behind end
    pub ended : IsAtEnd end
    pub runs : RunsBehind (core_at core_of stage) (commands_of back.lines) told new

  -- Line n stands behind `threads` and can't be run. No thread was started.
  pub record StopsBehind (core_of : P → Option CoreState) (input old new : Option (List ℕ)) (n : ℕ) : Type 0 where
    pub stage : Stage P
    pub marked : Option (List ℕ)
    pub front : IsFront Creates Refuses Outcomes input old stage marked new
    pub behind : Option (List ℕ)
    pub threads : ReadsThreads marked behind
    pub stops : StopsInBack (CannotFollow (core_at core_of stage)) behind (length front.lines + 1) n

  -- why such a schedule isn't run to its end: such a line; or else the reader failed, the writer did, or memory ran out
  abbrev pub IsThreadsFault : (P → Command → Type 0) → (P → Option CoreState) → Option (List ℕ) → Option (List ℕ) → Option (List ℕ) → Refusal → Type 0
  IsThreadsFault Faults core_of input old new (LineFault n) = StopsInFront Creates Refuses Outcomes Faults input old new n ⊎ StopsBehind core_of input old new n
  IsThreadsFault Faults core_of input old new _ = Unit {0}

  -- how it ends: its lines were run to the end, or there is a cause why not
  abbrev pub EndsInThreads : (P → Command → Type 0) → (P → Option CoreState) → Option (List ℕ) → Option (List ℕ) → Option (List ℕ) → ExitStatus → Type 0
  EndsInThreads Faults core_of input old new Done = RunsInThreads core_of input old new
  EndsInThreads Faults core_of input old new (Fault cause) = IsThreadsFault Faults core_of input old new cause
