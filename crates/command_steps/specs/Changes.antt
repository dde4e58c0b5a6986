-- What a user may rest on who changes a pool, or commits what it has.
use Rattle.std.specs.Prelude.{◌≡◌, ◌≢◌, ◌⊎◌, ◌^◌, ◌≤◌, ℕ, List, [], ◌∷◌, length}
use Rattle.pool_model.specs.declared.step.Step.{Step}
use Rattle.pool_model.specs.declared.step.Step.TheVariants.{Hold, Release, Close}
use Rattle.pool_model.specs.declared.step.Reply.{Reply}
use Rattle.pool_model.specs.declared.step.Reply.TheVariants.{Committed, Refused}
use Rattle.pool_model.specs.View.{View}
use Rattle.pool_model.specs.Headline.{Headline}
use Rattle.pool_steps.specs.declared.steps.PoolSteps.{Ghosts}
use Rattle.command_steps.specs.Sessions.{Session}
use Rattle.command_steps.specs.Made.{IsAtRest, IsItem, IsKept, IsMade, IsSame}

-- an item under a hold, and the first step of a commit
abbrev pub steps_of : Step → List Step
steps_of item = Hold 1 ∷ item ∷ Release 1 ∷ Close ∷ []

-- a group was committed, or a step was refused
abbrev pub IsAnswer : Reply → Type 0
IsAnswer (Committed group) = Unit {0}
IsAnswer (Refused cause) = Unit {0}
IsAnswer reply = ⊥

module _ {C : Type 0} (g : Ghosts C) (timestamp : ℕ) where
  -- the steps from this view where these are due, which end with an answer unless 2^64 were taken; what they tell, and what they have made where they end with a commit, and where they don't
  pub record IsOneRun (old : C) (v : View) (due : List Step) (last : Reply) (new : C) (makes : ℕ → View → Type 0) (keeps : View → Type 0) : Type 0 where
    pub left : List Step
    pub session : Session g timestamp old v due last left new
    pub ended : ((left ≡ []) × IsAnswer last) ⊎ (2 ^ 64 ≤ length session.steps)
    pub headline : Headline v session.steps session.givens session.replies session.after
    pub made : (group : ℕ) → last ≡ Committed group → makes group session.after
    pub kept : ((group : ℕ) → last ≢ Committed group) → keeps session.after

  -- a change from this view
  abbrev pub IsOneChange : C → View → Step → Reply → C → Type 0
  IsOneChange old v item last new =
      IsOneRun old v (steps_of item) last new (λ group w. IsItem item → IsAtRest v → IsMade v item group w) (λ w. IsItem item → IsKept v w)

  -- a commit from this view of what the open group has
  abbrev pub IsOneCommit : C → View → Reply → C → Type 0
  IsOneCommit old v last new = IsOneRun old v (Close ∷ []) last new (λ group w. IsAtRest v → IsSame v group w) (IsKept v)

  -- so it is from each view that the old core represents, where what the disks answered tells what was written
  abbrev pub Changes : C → Step → Reply → C → Type 0
  Changes old item last new = (v : View) → g.represents old v → g.answers_tell old new → IsOneChange old v item last new

  -- the same of a commit of what the open group has
  abbrev pub Commits : C → Reply → C → Type 0
  Commits old last new = (v : View) → g.represents old v → g.answers_tell old new → IsOneCommit old v last new
