-- What is printed of a schedule.
use Rattle.std.specs.Prelude.{◌≡◌, ◌⊎◌, ℕ, List, [], ◌∷◌, ◌++◌, Option, codes}
use Rattle.std.specs.Io.KnownBytes.{Appends}
use Rattle.pool_model.specs.declared.refusal.Refusal.{Refusal}
use Rattle.schedule_lines.specs.declared.command.Command.{Command}
use Rattle.schedule_lines.specs.declared.command.Command.TheVariants.{Pool}
use Rattle.schedule_lines.specs.declared.command.PoolLine.{PoolLine}
use Rattle.schedule_lines.specs.Replies.{refusal_text}
use Rattle.programs.specs.declared.outcome.Outcome.{Outcome}
use Rattle.programs.specs.Outcomes.{IsOutcomeText}
use Rattle.programs.specs.Reads.{IsSchedule}

-- the commands are run against a pool in turn, and the text has a line for each: that of what came of it
abbrev pub Plays : {M : Type 0} → (M → Command → Outcome → M → Type 0) → M → List Command → List ℕ → M → Type 0
Plays Outcomes old [] text new = (old ≡ new) × (text ≡ [])
Plays {M = M} Outcomes old (command ∷ commands) text new = (between : M) × (outcome : Outcome) × (line : List ℕ) × (rest : List ℕ) × Outcomes old command outcome between × IsOutcomeText outcome line × Plays Outcomes between commands rest new × (text ≡ line ++ (10 ∷ rest))

-- The text of a whole schedule: nothing; or the pool's line, and then what it answers; or why there is no pool, and then
-- nothing is asked of it.
abbrev pub Prints : {M : Type 0} → (PoolLine → M → Type 0) → (PoolLine → Refusal → Type 0) → (M → Command → Outcome → M → Type 0) → List Command → List ℕ → Type 0
Prints Creates Refuses Outcomes [] text = text ≡ []
Prints {M = M} Creates Refuses Outcomes (Pool line ∷ commands) text =
    ((pool : M) × (last : M) × (rest : List ℕ) × Creates line pool × Plays Outcomes pool commands rest last × (text ≡ codes "pool 3 claim 1" ++ (10 ∷ rest)))
    ⊎ ((cause : Refusal) × Refuses line cause × (commands ≡ []) × (text ≡ refusal_text cause ++ (10 ∷ [])))
Prints Creates Refuses Outcomes (_ ∷ commands) text = ⊥

-- from this pool on, the input's commands are answered, and the output grows by their text and nothing else
abbrev pub AnswersAll : {M : Type 0} → (M → Command → Outcome → M → Type 0) → M → Option (List ℕ) → Option (List ℕ) → Option (List ℕ) → Type 0
AnswersAll {M = M} Outcomes pool input old new = (commands : List Command) × (text : List ℕ) × (last : M) × IsSchedule input commands × Plays Outcomes pool commands text last × Appends old new text

-- the input's commands are a schedule that was run, and the output grew by its text and nothing else
abbrev pub RunsSchedule : {M : Type 0} → (PoolLine → M → Type 0) → (PoolLine → Refusal → Type 0) → (M → Command → Outcome → M → Type 0) → Option (List ℕ) → Option (List ℕ) → Option (List ℕ) → Type 0
RunsSchedule Creates Refuses Outcomes input old new = (commands : List Command) × (text : List ℕ) × IsSchedule input commands × Prints Creates Refuses Outcomes commands text × Appends old new text
