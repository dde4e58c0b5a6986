-- Where a schedule faults, and why.
use Rattle.std.specs.Prelude.{◌≡◌, ◌≢◌, ◌⊎◌, ℕ, ◌+◌, ◌-◌, ◌^◌, min, List, [], ◌∷◌, ◌++◌, length, codes, Option, Some, None}
use Rattle.std.specs.Io.BufRead.{first_piece}
use Rattle.std.specs.Io.KnownBytes.{Appends}
use Rattle.pool_model.specs.declared.refusal.Refusal.{Refusal as Cause}
use Rattle.schedule_lines.specs.declared.command.Line.{Line}
use Rattle.schedule_lines.specs.declared.command.Line.TheVariants.{Command as CommandLine}
use Rattle.schedule_lines.specs.declared.command.Command.{Command}
use Rattle.schedule_lines.specs.declared.command.Command.TheVariants.{Pool}
use Rattle.schedule_lines.specs.declared.command.PoolLine.{PoolLine}
use Rattle.schedule_lines.specs.Grammar.{Spells}
use Rattle.schedule_lines.specs.Replies.{refusal_text}
use Rattle.programs.specs.declared.refusal.Refusal.{Refusal}
use Rattle.programs.specs.declared.refusal.Refusal.TheVariants.{Line as LineFault}
use Rattle.programs.specs.declared.status.ExitStatus.{ExitStatus}
use Rattle.programs.specs.declared.status.ExitStatus.TheVariants.{Done, Fault}
use Rattle.programs.specs.declared.outcome.Outcome.{Outcome}
use Rattle.programs.specs.Answers.{IsFirst}
use Rattle.programs.specs.Plays.{Plays, RunsSchedule}
use Rattle.programs.specs.Reads.{ReadsLines, commands_of}

-- how many lines were read, as it is told: the count stops at the greatest number of 64 bits
abbrev pub counted : ℕ → ℕ
counted n = min n (2 ^ 64 - 1)

-- there is a line, and it spells nothing
abbrev pub SpellsNothing : Option (List ℕ) → Type 0
SpellsNothing None = Unit {0}
SpellsNothing (Some bytes) = (bytes ≢ []) × ((line : Line) → Spells line (first_piece 10 bytes) → ⊥)

-- the next line is this command
abbrev pub NextIs : Option (List ℕ) → Command → Type 0
NextIs input command = (rest : Option (List ℕ)) × ReadsLines input (CommandLine command ∷ []) rest

-- only lines that are skipped were read: k lines before them, and n with them, as far as they are counted
abbrev pub Skips : Option (List ℕ) → ℕ → Option (List ℕ) → ℕ → Type 0
Skips old k new n = (lines : List Line) × ReadsLines old lines new × (commands_of lines ≡ []) × (counted n ≡ counted (k + length lines))

-- behind such lines comes this command, as line n
abbrev pub ReadsCommand : Option (List ℕ) → ℕ → Command → Option (List ℕ) → ℕ → Type 0
ReadsCommand old k command new n =
    (between : Option (List ℕ)) × (m : ℕ) × Skips old k between m × ReadsLines between (CommandLine command ∷ []) new × (n ≡ counted (m + 1))

-- this refusal is about no line, or behind such lines that line spells nothing
abbrev pub IsLineFault : Option (List ℕ) → ℕ → Refusal → Type 0
IsLineFault old k (LineFault n) = (between : Option (List ℕ)) × (m : ℕ) × Skips old k between m × SpellsNothing between × (n ≡ counted (m + 1))
IsLineFault old k _ = Unit {0}

-- the same of the next line, with none skipped
abbrev pub IsNextFault : Option (List ℕ) → ℕ → Refusal → Type 0
IsNextFault input k (LineFault n) = SpellsNothing input × (n ≡ counted (k + 1))
IsNextFault input k _ = Unit {0}

-- the refusal is about no line: the reader failed, the writer did, or memory ran out
abbrev pub IsNoLine : Refusal → Type 0
IsNoLine (LineFault n) = ⊥
IsNoLine _ = Unit {0}

-- the next line spells nothing, or it is a command that is misplaced there
abbrev pub CannotGoOn : (Command → Type 0) → Option (List ℕ) → Type 0
CannotGoOn Misplaced rest = SpellsNothing rest ⊎ ((command : Command) × NextIs rest command × Misplaced command)

-- Against a pool: line n can't be run, and those before it, of which k were read before the pool was asked, were. Of their commands came
-- that text, and the output grew by it. The line spells nothing, or it can't stand before the pool as it is then.
pub record StopsPool {M : Type 0} (Outcomes : M → Command → Outcome → M → Type 0) (Faults : M → Command → Type 0) (pool : M) (input : Option (List ℕ)) (k : ℕ) (old new : Option (List ℕ)) (n : ℕ) : Type 0 where
  pub lines : List Line
  pub rest : Option (List ℕ)
  pub text : List ℕ
  pub last : M
  pub read : ReadsLines input lines rest
  pub number : n ≡ counted (k + length lines + 1)
  pub plays : Plays Outcomes pool (commands_of lines) text last
  pub appends : Appends old new text
  pub cause : CannotGoOn (Faults last) rest

-- why a schedule isn't run against a pool to its end: such a line; of another cause nothing is said
abbrev pub IsPoolFault : {M : Type 0} → (M → Command → Outcome → M → Type 0) → (M → Command → Type 0) → M → Option (List ℕ) → ℕ → Option (List ℕ) → Option (List ℕ) → Refusal → Type 0
IsPoolFault Outcomes Faults pool input k old new (LineFault n) = StopsPool Outcomes Faults pool input k old new n
IsPoolFault Outcomes Faults pool input k old new _ = Unit {0}

-- Of these commands came that text, and no more can be run: the first one asks for a pool, each later one stands before the pool as it
-- is then, and where none was made nothing is asked of it.
abbrev pub PrintsBefore : {M : Type 0} → (PoolLine → M → Type 0) → (PoolLine → Cause → Type 0) → (M → Command → Outcome → M → Type 0) → (M → Command → Type 0) → List Command → List ℕ → Option (List ℕ) → Type 0
PrintsBefore Creates Refuses Outcomes Faults [] text rest = (text ≡ []) × CannotGoOn (λ command. ¬ IsFirst command) rest
PrintsBefore {M = M} Creates Refuses Outcomes Faults (Pool line ∷ commands) text rest =
    ((pool : M) × (last : M) × (told : List ℕ) × Creates line pool × Plays Outcomes pool commands told last × (text ≡ codes "pool 3 claim 1" ++ (10 ∷ told)) × CannotGoOn (Faults last) rest)
    ⊎ ((cause : Cause) × Refuses line cause × (commands ≡ []) × (text ≡ refusal_text cause ++ (10 ∷ [])) × CannotGoOn (λ command. Unit {0}) rest)
PrintsBefore Creates Refuses Outcomes Faults (_ ∷ commands) text rest = ⊥

-- Line n can't be run, and those before it were: their commands have that text, and the output grew by it and nothing else. The line
-- spells nothing, or it is a command that can't stand behind theirs.
pub record StopsAtLine {M : Type 0} (Creates : PoolLine → M → Type 0) (Refuses : PoolLine → Cause → Type 0) (Outcomes : M → Command → Outcome → M → Type 0) (Faults : M → Command → Type 0) (input old new : Option (List ℕ)) (n : ℕ) : Type 0 where
  pub lines : List Line
  pub rest : Option (List ℕ)
  pub text : List ℕ
  pub read : ReadsLines input lines rest
  pub number : n ≡ counted (length lines + 1)
  pub prints : PrintsBefore Creates Refuses Outcomes Faults (commands_of lines) text rest
  pub appends : Appends old new text

-- why a schedule isn't run to its end: such a line; or else the reader failed, the writer did, or memory ran out
abbrev pub IsFaultOf : {M : Type 0} → (PoolLine → M → Type 0) → (PoolLine → Cause → Type 0) → (M → Command → Outcome → M → Type 0) → (M → Command → Type 0) → Option (List ℕ) → Option (List ℕ) → Option (List ℕ) → Refusal → Type 0
IsFaultOf Creates Refuses Outcomes Faults input old new (LineFault n) = StopsAtLine Creates Refuses Outcomes Faults input old new n
IsFaultOf Creates Refuses Outcomes Faults input old new _ = Unit {0}

-- how a schedule ends: its lines were run to the end, or there is a cause why not
abbrev pub EndsAs : {M : Type 0} → (PoolLine → M → Type 0) → (PoolLine → Cause → Type 0) → (M → Command → Outcome → M → Type 0) → (M → Command → Type 0) → Option (List ℕ) → Option (List ℕ) → Option (List ℕ) → ExitStatus → Type 0
EndsAs Creates Refuses Outcomes Faults input old new Done = RunsSchedule Creates Refuses Outcomes input old new
EndsAs Creates Refuses Outcomes Faults input old new (Fault cause) = IsFaultOf Creates Refuses Outcomes Faults input old new cause
