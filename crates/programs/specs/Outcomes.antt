-- What comes of a command, and how it is printed.
use Rattle.std.specs.Prelude.{◌≡◌, ℕ, List, [], ◌∷◌, ◌++◌, codes}
use Rattle.std.specs.Fmt.{decimal}
use Rattle.pool_model.specs.declared.step.Step.{Step}
use Rattle.pool_model.specs.declared.step.Reply.{Reply}
use Rattle.pool_create.specs.OpenCauses.{argument_of, name_of, number_of}
use Rattle.pool_create.specs.OpenRefusal.{Refusal}
use Rattle.schedule_lines.specs.declared.command.Command.{Command}
use Rattle.schedule_lines.specs.Replies.{IsReplyText, opened_text}
use Rattle.programs.specs.declared.outcome.Outcome.{Outcome}
use Rattle.programs.specs.declared.outcome.Outcome.TheVariants.{Replied, StopIsSet, Stopped, Opened, Unopened}
use Rattle.programs.specs.Answers.{Answers}

-- behind the name, where there is one
abbrev pub argument_text : List ℕ → List ℕ
argument_text [] = []
argument_text (letter ∷ rest) = 32 ∷ (letter ∷ rest)

-- the number, the name and the argument
abbrev pub unopened_text : Refusal → List ℕ
unopened_text refusal = codes "refused " ++ (decimal (number_of refusal) ++ (32 ∷ (name_of refusal ++ argument_text (argument_of refusal))))

-- the text of what came of a command, without a line feed
abbrev pub IsOutcomeText : Outcome → List ℕ → Type 0
IsOutcomeText (Replied reply) text = IsReplyText reply text
IsOutcomeText StopIsSet text = text ≡ codes "stop"
IsOutcomeText Stopped text = text ≡ codes "stopped"
IsOutcomeText (Opened group claim) text = text ≡ opened_text group claim
IsOutcomeText (Unopened refusal) text = text ≡ unopened_text refusal

-- what comes of a command against a machine of steps: its last reply
abbrev pub Replies : {M : Type 0} → (M → Step → Reply → M → Type 0) → M → Command → Outcome → M → Type 0
Replies Steps old command outcome new = (last : Reply) × (outcome ≡ Replied last) × Answers Steps old command last new
