-- Whole runs of a core.
use Rattle.std.specs.Prelude.{◌≡◌, List, [], ◌∷◌, ◌++◌, Bool, true}
use Rattle.std.specs.List.{AllByRecursion}
use Rattle.pool_model.specs.declared.step.Step.{Step}
use Rattle.pool_model.specs.declared.step.Reply.{Reply}
use Rattle.pool_model.specs.View.{View, Given}
use Rattle.pool_model.specs.Machine.{Run}
use Rattle.pool_model.specs.Headline.{Headline}
use Rattle.pool_commit.specs.Accounted.{HasAllRoom}
use Rattle.pool_commit.specs.Calls.{GrewTo}
use Rattle.pool_core.specs.Moves.{Moves}
use Rattle.pool_core.specs.State.{CoreState, disks_of}
use Rattle.pool_core.specs.Represents.{Represents}
use Rattle.pool_core.specs.Steps.{AnswersTellThroughout, CameFrom, IsPlanned, Link}

-- One chain: each link leads from a core state and a view to the next ones, and writes what its step may write; the last are those of the end.
abbrev pub Chain : CoreState → View → List Step → List Given → List Reply → CoreState → View → Type 0
Chain old v [] [] [] new w = (old ≡ new) × (v ≡ w)
Chain old v (step ∷ steps) (given ∷ givens) (reply ∷ replies) new w =
    (mid : CoreState) × (between : View) × GrewTo (disks_of old) (disks_of mid) × Link old v step given reply mid between
    × Moves step old.commit mid.commit × Chain mid between steps givens replies new w
Chain old v steps givens replies new w = ⊥

-- what was given is trusted, where the answers of the disks are known to tell
abbrev pub AreTrusted : Bool → List Given → Type 0
AreTrusted trusted givens = trusted ≡ true → AllByRecursion (λ (given : Given). given.trusted ≡ true) givens

-- The states that a run passed: each step led from the one before it to the next, and wrote what it may write.
abbrev pub Passes : CoreState → List Step → List Reply → CoreState → Type 0
Passes old [] [] new = old ≡ new
Passes old (step ∷ steps) (reply ∷ replies) new =
    (mid : CoreState) × CameFrom old mid × Moves step old.commit mid.commit × Passes mid steps replies new
Passes old steps replies new = ⊥

-- the states behind the steps of a chain, in order
abbrev pub states_linked : (old : CoreState) (v : View) (steps : List Step) (givens : List Given) (replies : List Reply) (new : CoreState) (w : View)
    → Chain old v steps givens replies new w → List CoreState
states_linked old v (step ∷ steps) (given ∷ givens) (reply ∷ replies) new w chain =
    chain.0 ∷ states_linked chain.0 chain.1 steps givens replies new w chain.5
states_linked old v steps givens replies new w chain = []

-- the states behind the steps of a run, in order
abbrev pub states_passed : (old : CoreState) (steps : List Step) (replies : List Reply) (new : CoreState) → Passes old steps replies new → List CoreState
states_passed old (step ∷ steps) (reply ∷ replies) new passes = passes.0 ∷ states_passed passes.0 steps replies new passes.3
states_passed old steps replies new passes = []

-- A flag for each step, which may be set only where what the disks answered in that step tells what was written. For a plan that was made it is set.
abbrev pub TellIn : (old : CoreState) (steps : List Step) (replies : List Reply) (new : CoreState) → Passes old steps replies new → List Bool → Type 0
TellIn old [] [] new passes [] = Unit {0}
TellIn old (step ∷ steps) (reply ∷ replies) new passes (trusted ∷ flags) =
    (trusted ≡ true → AnswersTellThroughout old passes.0) × (IsPlanned reply → trusted ≡ true) × TellIn passes.0 steps replies new passes.3 flags
TellIn old steps replies new passes flags = ⊥

-- what was given to a step is trusted where its flag is set
abbrev pub GiveTrust : List Bool → List Given → Type 0
GiveTrust [] [] = Unit {0}
GiveTrust (trusted ∷ flags) (given ∷ givens) = (trusted ≡ true → given.trusted ≡ true) × GiveTrust flags givens
GiveTrust flags givens = ⊥

-- a chain from v through the states that were passed, with what was given and its end
pub record Links (old : CoreState) (v : View) (flags : List Bool) (steps : List Step) (replies : List Reply) (new : CoreState)
    (passes : Passes old steps replies new) : Type 0 where
  pub givens : List Given
  pub trust : GiveTrust flags givens
  pub after : View
  pub chain : Chain old v steps givens replies new after
  pub through : states_linked old v steps givens replies new after chain ≡ states_passed old steps replies new passes
  pub represents : Represents new after

-- so far
abbrev pub RunsTo : CoreState → List Step → List Reply → CoreState → List Reply → Type 0
RunsTo old steps before new after = (replies : List Reply) × (after ≡ before ++ replies) × (passes : Passes old steps replies new)
    × ((v : View) (flags : List Bool) → Represents old v → TellIn old steps replies new passes flags → Links old v flags steps replies new passes)

-- The core took these steps and added their replies. From each view that it represented, and whatever steps are trusted, this is a chain to a view that
-- it now represents; so it is a run of the machine, and tells what the headline says. No room is lost at its end, and none used twice.
abbrev pub Ran : CoreState → List Step → List Reply → CoreState → List Reply → Type 0
Ran old steps before new after = (replies : List Reply) × (after ≡ before ++ replies) × (passes : Passes old steps replies new)
    × ((v : View) (flags : List Bool) → Represents old v → TellIn old steps replies new passes flags
    → (links : Links old v flags steps replies new passes) × Run v steps links.givens replies links.after × Headline v steps links.givens replies links.after
    × HasAllRoom new.commit links.after)
