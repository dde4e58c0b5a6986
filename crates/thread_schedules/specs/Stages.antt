-- A schedule's pool from before its first line on, and what is recounted of the lines.
use Rattle.std.specs.Prelude.{◌≡◌, ℕ, List, [], ◌∷◌, ◌++◌, Option, None, codes}
use Rattle.pool_create.specs.CoreState.{CoreState}
use Rattle.pool_model.specs.declared.refusal.Refusal.{Refusal as Cause}
use Rattle.schedule_lines.specs.declared.command.Command.{Command}
use Rattle.schedule_lines.specs.declared.command.Command.TheVariants.{Pool}
use Rattle.schedule_lines.specs.declared.command.PoolLine.{PoolLine}
use Rattle.schedule_lines.specs.Grammar.{line_of_command}
use Rattle.schedule_lines.specs.Replies.{refusal_text}
use Rattle.programs.specs.declared.outcome.Outcome.{Outcome}
use Rattle.programs.specs.Answers.{IsFirst}
use Rattle.programs.specs.Outcomes.{IsOutcomeText}
use Rattle.thread_schedules.specs.declared.stage.Stage.{Stage}
use Rattle.thread_schedules.specs.declared.stage.Stage.TheVariants.{Unmade, Made, Refused}

-- what is said of a command, and the stage behind it: the first makes a pool or is told why not, and later ones are run against the pool
abbrev pub Comes : {P : Type 0} → (PoolLine → P → Type 0) → (PoolLine → Cause → Type 0) → (P → Command → Outcome → P → Type 0) → Stage P → Command → List ℕ → Stage P → Type 0
Comes Creates Refuses Outcomes Unmade (Pool line) said (Made pool) = Creates line pool × (said ≡ codes "pool 3 claim 1")
Comes Creates Refuses Outcomes Unmade (Pool line) said Refused = (cause : Cause) × Refuses line cause × (said ≡ refusal_text cause)
Comes Creates Refuses Outcomes (Made old) command said (Made new) = (outcome : Outcome) × Outcomes old command outcome new × IsOutcomeText outcome said
Comes Creates Refuses Outcomes _ _ said _ = ⊥

-- the commands that can't stand there: at first all but a pool's line, then what can't stand before the pool, and all behind a refused one
abbrev pub Misplaced : {P : Type 0} → (P → Command → Type 0) → Stage P → Command → Type 0
Misplaced Faults Unmade command = ¬ IsFirst command
Misplaced Faults (Made pool) command = Faults pool command
Misplaced Faults Refused command = Unit {0}

-- a line, and behind it in a comment what is said of it
abbrev pub told_as : List ℕ → List ℕ → List ℕ
told_as line said = line ++ (codes "\n# " ++ (said ++ codes "\n"))

-- a command's line, and behind it in a comment what is said of it
abbrev pub recounted : Command → List ℕ → List ℕ
recounted command said = told_as (line_of_command command) said

-- the commands are run in turn, and the text has each one's line and what is said of it
abbrev pub Recounts : {P : Type 0} → (PoolLine → P → Type 0) → (PoolLine → Cause → Type 0) → (P → Command → Outcome → P → Type 0) → Stage P → List Command → List ℕ → Stage P → Type 0
Recounts Creates Refuses Outcomes old [] text new = (old ≡ new) × (text ≡ [])
Recounts {P = P} Creates Refuses Outcomes old (command ∷ commands) text new =
    (between : Stage P) × (said : List ℕ) × (rest : List ℕ) × Comes Creates Refuses Outcomes old command said between
    × Recounts Creates Refuses Outcomes between commands rest new × (text ≡ recounted command said ++ rest)

-- the core of the pool, where one runs
abbrev pub core_at : {P : Type 0} → (P → Option CoreState) → Stage P → Option CoreState
core_at core_of (Made pool) = core_of pool
core_at core_of _ = None
