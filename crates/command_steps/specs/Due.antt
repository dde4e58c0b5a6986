-- Which steps are due, and which were taken.
use Rattle.std.specs.Prelude.{◌≡◌, ℕ, List, [], ◌∷◌, Bool, true, false}
use Rattle.pool_model.specs.declared.step.Step.{Step}
use Rattle.pool_model.specs.declared.step.Step.TheVariants.{Quiesce, Plan, Device}
use Rattle.pool_model.specs.declared.step.Reply.{Reply}
use Rattle.pool_model.specs.declared.step.Reply.TheVariants.{Closed, Quiesced, Planned, Moved, Replan, Refused}

-- the reply is a refusal
abbrev pub is_refused : Reply → Bool
is_refused (Refused cause) = true
is_refused reply = false

-- the step that brings a group on after this reply, unless it is committed or refused
abbrev pub next_of : ℕ → Reply → List Step
next_of timestamp (Closed group) = Quiesce ∷ []
next_of timestamp (Quiesced group) = Plan timestamp ∷ []
next_of timestamp (Planned group) = Device ∷ []
next_of timestamp (Moved phase) = Device ∷ []
next_of timestamp (Replan disk) = Plan timestamp ∷ []
next_of timestamp reply = []

-- the steps that are due after this reply, where these stood behind its step: none after a refusal
abbrev pub due_after : ℕ → List Step → Reply → List Step
due_after timestamp behind (Refused cause) = []
due_after timestamp [] reply = next_of timestamp reply
due_after timestamp behind reply = behind

-- where the first of these was due, these steps were taken as each was due, with these replies, and then these are left
abbrev pub AreTaken : ℕ → List Step → List Step → List Reply → List Step → Type 0
AreTaken timestamp due [] [] left = left ≡ due
AreTaken timestamp (next ∷ behind) (step ∷ steps) (reply ∷ replies) left = (step ≡ next) × AreTaken timestamp (due_after timestamp behind reply) steps replies left
AreTaken timestamp due steps replies left = ⊥
