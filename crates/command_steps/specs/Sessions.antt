-- What a core's steps were, one after another, each taken as it was due.
use Rattle.std.specs.Prelude.{◌≡◌, ◌⊎◌, ◌^◌, ◌≤◌, ℕ, List, [], ◌∷◌, length, true, Some, None}
use Rattle.std.specs.List.{AllByRecursion, last_or}
use Rattle.pool_model.specs.declared.step.Step.{Step}
use Rattle.pool_model.specs.declared.step.Reply.{Reply}
use Rattle.pool_model.specs.View.{View, Given}
use Rattle.pool_model.specs.Machine.{Run}
use Rattle.pool_steps.specs.declared.steps.PoolSteps.{Ghosts}
use Rattle.command_steps.specs.Due.{AreTaken}

module _ {C : Type 0} (g : Ghosts C) where
  -- each step leads from one core and view to the next, from the first to the last
  abbrev pub Chain : C → View → List Step → List Given → List Reply → C → View → Type 0
  Chain old v [] [] [] new w = (old ≡ new) × (v ≡ w)
  Chain old v (step ∷ steps) (given ∷ givens) (reply ∷ replies) new w = (mid : C) × (between : View) × g.links old v step given reply mid between × Chain mid between steps givens replies new w
  Chain old v steps givens replies new w = ⊥

  -- where these steps were due: those that were taken, up to the last reply, as a run from this view with nothing but true answers, and these are left
  pub record Session (timestamp : ℕ) (old : C) (v : View) (due : List Step) (last : Reply) (left : List Step) (new : C) : Type 0 where
    pub steps : List Step
    pub givens : List Given
    pub replies : List Reply
    pub after : View
    pub taken : AreTaken timestamp due steps replies left
    pub last_reply : last_or None replies ≡ Some last
    pub trusted : AllByRecursion (λ given. given.trusted ≡ true) givens
    pub run : Run v steps givens replies after
    pub chain : Chain old v steps givens replies new after
    pub represents_after : g.represents new after

  -- the new core came from the old one; from each view that the old one represents, where what the disks answered tells what was written, steps were taken until none was left, or 2^64 were taken
  pub record RunsOn (timestamp : ℕ) (old : C) (due : List Step) (last : Reply) (new : C) : Type 0 where
    pub follows : g.came_from old new
    pub sessions : (v : View) → g.represents old v → g.answers_tell old new → (left : List Step) × (s : Session timestamp old v due last left new) × ((left ≡ []) ⊎ (2 ^ 64 ≤ length s.steps))
