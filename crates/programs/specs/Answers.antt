-- What a command asks of a pool, and what it is answered.
use Rattle.std.specs.Prelude.{◌≡◌, ◌⊎◌, ◌-◌, ◌^◌, ◌≤◌, List, [], ◌∷◌, length, Bool, true, false, Some, None}
use Rattle.pool_model.specs.declared.step.Step.{Step}
use Rattle.pool_model.specs.declared.step.Reply.{Reply}
use Rattle.schedule_lines.specs.declared.command.Command.{Command}
use Rattle.schedule_lines.specs.declared.command.Command.TheVariants.{Pool, Commit, Sync}
pub use Rattle.line_steps.specs.Begins.{Begins, IsNoStep, next_of}

-- a pool takes a step, and after each of these replies the one that follows from it; then comes the last reply
abbrev pub Leads : {M : Type 0} → (M → Step → Reply → M → Type 0) → M → Step → List Reply → Reply → M → Type 0
Leads {M = M} Steps old s [] last new = Steps old s last new
Leads {M = M} Steps old s (r ∷ replies) last new = (between : M) × (next : Step) × Steps old s r between × (next_of r ≡ Some next) × Leads Steps between next replies last new

-- steps are taken until none follows, or 2^64 are taken
abbrev pub RunsOn : {M : Type 0} → (M → Step → Reply → M → Type 0) → M → Step → Reply → M → Type 0
RunsOn Steps old s last new = (replies : List Reply) × Leads Steps old s replies last new × ((next_of last ≡ None) ⊎ (2 ^ 64 - 1 ≤ length replies))

-- whether a command goes on from its first step
abbrev pub runs_on : Command → Bool
runs_on Commit = true
runs_on Sync = true
runs_on _ = false

-- a command takes its step; one that goes on takes all that follow from it too
abbrev pub Goes : {M : Type 0} → (M → Step → Reply → M → Type 0) → Bool → M → Step → Reply → M → Type 0
Goes Steps true old s last new = RunsOn Steps old s last new
Goes Steps false old s last new = Steps old s last new

-- a command has this reply, the last one of its steps
abbrev pub Answers : {M : Type 0} → (M → Step → Reply → M → Type 0) → M → Command → Reply → M → Type 0
Answers Steps old command last new = (s : Step) × Begins command s × Goes Steps (runs_on command) old s last new

-- a command that only a first line may be
abbrev pub IsFirst : Command → Type 0
IsFirst (Pool line) = Unit {0}
IsFirst _ = ⊥
