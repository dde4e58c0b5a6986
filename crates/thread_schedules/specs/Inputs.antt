-- The lines before `threads`, and those behind it.
use Rattle.std.specs.Prelude.{◌≡◌, ◌≢◌, ◌⊎◌, ℕ, ◌+◌, List, [], ◌∷◌, length, Option}
use Rattle.std.specs.Io.KnownBytes.{Appends, IsAtEnd}
use Rattle.std.specs.List.{AllByRecursion}
use Rattle.pool_model.specs.declared.refusal.Refusal.{Refusal as Cause}
use Rattle.schedule_lines.specs.declared.command.Command.{Command}
use Rattle.schedule_lines.specs.declared.command.Line.{Line}
use Rattle.schedule_lines.specs.declared.command.Line.TheVariants.{Threads}
use Rattle.schedule_lines.specs.declared.command.PoolLine.{PoolLine}
use Rattle.programs.specs.declared.outcome.Outcome.{Outcome}
use Rattle.programs.specs.declared.refusal.Refusal.{Refusal}
use Rattle.programs.specs.declared.refusal.Refusal.TheVariants.{Line as LineFault}
use Rattle.programs.specs.Faults.{CannotGoOn, counted}
use Rattle.programs.specs.Reads.{ReadsLines, commands_of}
use Rattle.thread_schedules.specs.declared.stage.Stage.{Stage}
use Rattle.thread_schedules.specs.declared.stage.Stage.TheVariants.{Unmade}
use Rattle.thread_schedules.specs.Stages.{Misplaced, Recounts}

-- none of them is `threads`
abbrev pub HaveNoThreads : List Line → Type 0
HaveNoThreads lines = AllByRecursion (λ line. line ≢ Threads) lines

-- the next line is `threads`
abbrev pub ReadsThreads : Option (List ℕ) → Option (List ℕ) → Type 0
ReadsThreads input rest = ReadsLines input (Threads ∷ []) rest

-- Lines were read of the input, none of them `threads`. Their commands were run from the first on, and the output grew by what is recounted of them.
pub record IsFront {P : Type 0} (Creates : PoolLine → P → Type 0) (Refuses : PoolLine → Cause → Type 0) (Outcomes : P → Command → Outcome → P → Type 0) (input old : Option (List ℕ)) (stage : Stage P) (rest new : Option (List ℕ)) : Type 0 where
  pub lines : List Line
  pub read : ReadsLines input lines rest
  pub plain : HaveNoThreads lines
  pub text : List ℕ
  pub recounts : Recounts Creates Refuses Outcomes Unmade (commands_of lines) text stage
  pub told : Appends old new text

-- line n can't be run behind them: it is the end where `threads` is wanting, it spells nothing, or it is a command that can't stand there
pub record StopsInFront {P : Type 0} (Creates : PoolLine → P → Type 0) (Refuses : PoolLine → Cause → Type 0) (Outcomes : P → Command → Outcome → P → Type 0) (Faults : P → Command → Type 0) (input old new : Option (List ℕ)) (n : ℕ) : Type 0 where
  pub stage : Stage P
  pub rest : Option (List ℕ)
  pub front : IsFront Creates Refuses Outcomes input old stage rest new
  pub number : n ≡ counted (length front.lines + 1)
  pub cause : IsAtEnd rest ⊎ CannotGoOn (Misplaced Faults stage) rest

-- why the lines before `threads` are not all run: such a line; of another cause nothing is said
abbrev pub IsFrontFault : {P : Type 0} → (PoolLine → P → Type 0) → (PoolLine → Cause → Type 0) → (P → Command → Outcome → P → Type 0) → (P → Command → Type 0) → Option (List ℕ) → Option (List ℕ) → Option (List ℕ) → Refusal → Type 0
IsFrontFault Creates Refuses Outcomes Faults input old new (LineFault n) = StopsInFront Creates Refuses Outcomes Faults input old new n
IsFrontFault Creates Refuses Outcomes Faults input old new _ = Unit {0}

-- lines were read, none of them `threads`
pub record IsBack (input rest : Option (List ℕ)) : Type 0 where
  pub lines : List Line
  pub read : ReadsLines input lines rest
  pub plain : HaveNoThreads lines

-- line n can't stand behind them, of which k were read before: it is a second `threads`, it spells nothing, or it is a command that can't follow theirs
pub record StopsInBack (CannotFollow : List Command → Command → Type 0) (input : Option (List ℕ)) (k n : ℕ) : Type 0 where
  pub rest : Option (List ℕ)
  pub back : IsBack input rest
  pub number : n ≡ counted (k + length back.lines + 1)
  pub cause : ((end : Option (List ℕ)) × ReadsThreads rest end) ⊎ CannotGoOn (CannotFollow (commands_of back.lines)) rest

-- why the lines behind `threads` are not run: such a line; of another cause nothing is said
abbrev pub IsBackFault : (List Command → Command → Type 0) → Option (List ℕ) → ℕ → Refusal → Type 0
IsBackFault CannotFollow input k (LineFault n) = StopsInBack CannotFollow input k n
IsBackFault CannotFollow input k _ = Unit {0}
