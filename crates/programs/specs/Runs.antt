-- A schedule over disks that answer truly, as one run of a pool.
use Rattle.std.specs.Prelude.{◌≡◌, ℕ, List, [], ◌∷◌, ◌++◌, true, Some}
use Rattle.pool_model.specs.declared.step.Step.{Step}
use Rattle.pool_model.specs.declared.step.Reply.{Reply}
use Rattle.pool_model.specs.View.{View, Given}
use Rattle.pool_model.specs.Headline.{Headline}
use Rattle.schedule_lines.specs.declared.command.Command.{Command}
use Rattle.schedule_lines.specs.Replies.{IsReplyText}
use Rattle.pool_create.specs.Calls.{GrewTo}
use Rattle.pool_create.specs.Represents.{Represents}
use Rattle.pool_create.specs.Moves.{Moves}
use Rattle.pool_create.specs.CoreRuns.{AreTrusted, Chain}
use Rattle.pool_create.specs.CoreState.{CoreState, disks_of}
use Rattle.pool_create.specs.CoreSteps.{Goes}
use Rattle.programs.specs.Answers.{Begins, next_of}

-- a step of a core whose disks answer truly
abbrev pub StepsTruly : CoreState → Step → Reply → CoreState → Type 0
StepsTruly old step reply new = GrewTo (disks_of old) (disks_of new) × Moves step old.commit new.commit × ((v : View) → Represents old v → Goes old v true step reply new)

-- the steps from this one on: each next one follows from the reply to the one before it
abbrev pub AreSteps : Step → List Reply → List Step → Type 0
AreSteps s [] steps = steps ≡ s ∷ []
AreSteps s (reply ∷ replies) steps = (next : Step) × (rest : List Step) × (next_of reply ≡ Some next) × AreSteps next replies rest × (steps ≡ s ∷ rest)

-- the steps of a command and their replies, of which this is the last
pub record IsCommandRun (command : Command) (steps : List Step) (replies : List Reply) (last : Reply) : Type 0 where
  pub first : Step
  pub front : List Reply
  pub begins : Begins command first
  pub follow : AreSteps first front steps
  pub ends : replies ≡ front ++ last ∷ []

-- the steps and replies of all commands, and the text: a line for each command, that of its last reply
abbrev pub AreParts : List Command → List Step → List Reply → List ℕ → Type 0
AreParts [] steps replies text = (steps ≡ []) × (replies ≡ []) × (text ≡ [])
AreParts (command ∷ commands) steps replies text =
    (mine : List Step) × (others : List Step) × (answers : List Reply) × (later : List Reply) × (last : Reply) × (line : List ℕ) × (rest : List ℕ)
    × IsCommandRun command mine answers last × IsReplyText last line × AreParts commands others later rest
    × (steps ≡ mine ++ others) × (replies ≡ answers ++ later) × (text ≡ line ++ (10 ∷ rest))

-- The commands were run as one chain of the core from that view on, with this text; so they tell what the headline says.
pub record IsOneRun (old : CoreState) (v : View) (commands : List Command) (text : List ℕ) (new : CoreState) : Type 0 where
  pub steps : List Step
  pub givens : List Given
  pub replies : List Reply
  pub after : View
  pub parts : AreParts commands steps replies text
  pub trust : AreTrusted true givens
  pub chain : Chain old v steps givens replies new after
  pub headline : Headline v steps givens replies after
  pub represents : Represents new after

-- So are the steps of a commit that is stopped, from its first one on.
pub record IsStoppedRun (old : CoreState) (v : View) (first : Step) (new : CoreState) : Type 0 where
  pub steps : List Step
  pub givens : List Given
  pub front : List Reply
  pub last : Reply
  pub after : View
  pub follow : AreSteps first front steps
  pub trust : AreTrusted true givens
  pub chain : Chain old v steps givens (front ++ last ∷ []) new after
  pub headline : Headline v steps givens (front ++ last ∷ []) after
  pub represents : Represents new after
